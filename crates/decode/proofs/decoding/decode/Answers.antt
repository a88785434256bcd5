use Rattle.std.proofs.Common.{[], Some, vec_items, refl, subst}
use Rattle.elimination.specs.Tables.{empty_table}
use Rattle.relay.specs.States.{state}
use Rattle.decode.specs.Decoding.{Listed, hearings}
use Rattle.decode.proofs.Hearings.{reached_by}
use Rattle.decode.proofs.decoding.decode.Goals as goal

pub returns : goal.returns
returns g c =
    let ops = g.F.Field.ops in
    let o = ops c.args.field in
    let s = state ops c.start.new.self in
    let t = state ops c.hear_all.new.relay in
    let lines = vec_items c.in_ok-lines.lines in
    let start = c.in_ok-start.ensures in
    let listed = c.in_ok-lines.ensures.listed in
    record {
      last = t;
      heard = c.in_ok-lines.ensures.frames;
      listed = subst (λ x. Listed x lines t) {y = Some (record { ops = o; table = empty_table o.size c.args.packets c.args.symbols })} start.started.1 listed;
      promise = start.promise (hearings [] lines) t (reached_by s [] s lines t refl listed);
      read = c.in_ok-packets.ensures;
    }
