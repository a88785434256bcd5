use Rattle.std.proofs.Common.{sym, refl, ap, ◌∙◌, subst}
use Rattle.elimination.proofs.Accepting.{sizes_passed}
use Rattle.relay.specs.Promise.{Reached}
use Rattle.relay.specs.States.{state_of}
use Rattle.relay.proofs.Keeping.{keeps}
use Rattle.relay.proofs.Passing.{started_at}
use Rattle.relay.proofs.Relay.start.Goals as goal

pub returns : goal.returns
returns g c =
    let o = g.F.Field.ops c.args.field in
    let laws = g.met.F.Field.lawful c.args.field in
    let n = c.args.packets in
    let l = c.args.symbols in
    let built = c.in_ok-table.ensures in
    let empty = ap (state_of o) built.1 ∙ started_at o _ refl in
    record {
      started = (built.0, empty);
      promise = λ hs t calls. keeps o laws n l (sizes_passed n l (sym built.0)) hs t (subst (λ s. Reached s hs t) empty calls);
    }
