use Rattle.std.proofs.Common.{◌≡◌, Some, sym, ap, ◌∙◌, subst}
use Rattle.std.specs.Option.{option_copied_mut}
use Rattle.elimination.specs.Tables.{held, Taken}
use Rattle.relay.proofs.Passing.{shown}
use Rattle.relay.proofs.Relay.hear.Goals as goal

pub returns-in-New : goal.returns-in-New
returns-in-New g c =
    let s = c.in_ok-started.started.now in
    let o = g.F.Field.ops s.field in
    let t = held s.table in
    let u = held c.hear.new.self in
    let f = c.args.frame.now in
    let place : c.args.self.now.place ≡ Some s = sym c.as_mut.ensures.value ∙ ap option_copied_mut c.in_ok-started.ensures.ok_part in
    let taken = c.in_ok-lead.ensures in
    rw place (shown o t u f c.in-New.lead taken.0 (subst (λ h. Taken o t f h u) c.in-New.is taken.1))
