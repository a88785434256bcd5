use Rattle.std.proofs.Common.{◌≡◌, vec_items, rules}
use Rattle.text.specs.Tables.{lists}
use Rattle.text.specs.Scripts.{whole_lines}
use Rattle.text.proofs.Bounds.{held_few, held_digits}
use Rattle.text.proofs.script.Script.before_fault.Goals as goal
use Rattle.text.proofs.script.Script.before_fault.Goals.{in_default-via-in-Err+in_default, in_default-via-in_default}

pub invariant_of-result : goal.invariant_of-result
invariant_of-result c =
    let lines = c.read_text.new.lines in
    let held : lists (vec_items lines) ≡ whole_lines c.args.text.now = elim c.in_default.branch [ in_default-via-in-Err+in_default w ↦ search rules | in_default-via-in_default w ↦ search rules ] in
    record { few = held_few c.args.text.now lines held; digits = held_digits c.args.text.now lines held }
