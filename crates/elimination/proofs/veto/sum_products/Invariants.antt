use Rattle.std.proofs.Common.{length}
use Rattle.elimination.proofs.Vetoing.{Summed}
use Rattle.elimination.proofs.veto.sum_products.Given as goal

abbrev pub invariant-loop-coefficient : goal.invariant-loop-coefficient
invariant-loop-coefficient g l = Summed (g.F.Field.ops l.field) l.coefficients l.column (length l.yielded) l.sum
