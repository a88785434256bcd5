use Rattle.elimination.proofs.Storing.{Cleared}
use Rattle.elimination.proofs.reduction.insert.Given as goal

abbrev pub invariant-loop-old : goal.invariant-loop-old
invariant-loop-old g l = Cleared (g.F.Field.ops l.field) l.a l.row l.initial.table l.old-index l.table
