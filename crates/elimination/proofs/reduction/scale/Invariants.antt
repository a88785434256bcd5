use Rattle.std.proofs.Common.{◌≡◌, ℕ, ◌<◌, ◌≤◌}
use Rattle.algebra.specs.Frames.{code_at}
use Rattle.elimination.proofs.reduction.scale.Given as goal

-- the places below i are done, the others are as they were
abbrev pub invariant-loop-code : goal.invariant-loop-code
invariant-loop-code g l =
    ((k : ℕ) → k < l.code-index → code_at l.row k ≡ (g.F.Field.ops l.field).product l.factor (code_at l.initial.row k))
    × ((k : ℕ) → l.code-index ≤ k → code_at l.row k ≡ code_at l.initial.row k)
