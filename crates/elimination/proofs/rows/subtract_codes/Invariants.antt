use Rattle.std.proofs.Common.{◌≡◌, ℕ, ◌<◌, ◌≤◌, get_or}
use Rattle.elimination.specs.Rows.{less_at}
use Rattle.elimination.proofs.rows.subtract_codes.Given as goal

-- the places below i are done, the others are as they were
abbrev pub invariant-loop-i : goal.invariant-loop-i
invariant-loop-i g l =
    ((k : ℕ) → k < l.i → get_or l.target k 0 ≡ less_at (g.F.Field.ops l.field) l.initial.target l.factor l.source k)
    × ((k : ℕ) → l.i ≤ k → get_or l.target k 0 ≡ get_or l.initial.target k 0)
