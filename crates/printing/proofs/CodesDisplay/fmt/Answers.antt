use Rattle.std.proofs.Common.{arith}
use Rattle.std.proofs.Padding.{padded_integral_right}
use Rattle.std.proofs.lemmas.Grind.{common_steps}
use Rattle.printing.proofs.CodesDisplay.fmt.Goals as goal

pub loop-code-preserved : goal.loop-code-preserved
loop-code-preserved g c = grind (arith, common_steps, padded_integral_right)
