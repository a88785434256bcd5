use Rattle.text.proofs.Bounds.{held_few, held_digits}
use Rattle.text.proofs.script.Script.parse.Goals as goal

pub invariant_of-result : goal.invariant_of-result
invariant_of-result c =
    let lines = c.read_text.new.lines in
    let held = c.in_ok-read_text.ensures.1 in
    record { few = held_few c.args.text.now lines held; digits = held_digits c.args.text.now lines held }
