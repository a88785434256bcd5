use Rattle.std.proofs.Common.{length}
use Rattle.elimination.specs.Reduction.{lists}
use Rattle.elimination.proofs.Remainder.{Taken}
use Rattle.elimination.proofs.reduction.reduce.Given as goal

abbrev pub invariant-loop-row : goal.invariant-loop-row
invariant-loop-row g l = Taken (g.F.Field.ops l.field) (g.met.F.Field.lawful l.field) (lists l.table) l.frame (length l.yielded) l.rest
