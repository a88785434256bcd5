-- Steps of the generator, one more at a time, and what was drawn. Assumes nothing.
use Rattle.std.proofs.Common.{◌≡◌, ℕ, ◌+◌, ◌≤◌, [], ◌∷◌, ◌++◌, length, get_or, sym, ap, add-one, arith}
use Rattle.std.proofs.lemmas.List.FromFn.{length-map-range_with_len, map-range_with_len_more}
use Rattle.std.proofs.lemmas.Grind.{common_steps}
use Rattle.link.specs.Counts.{step, steps, drawn_count, drawn_counts}
use Rattle.link.specs.Laws.{each_counted}

pub step_more : (i x : ℕ) → step (steps i x) ≡ steps (i + 1) x
unfolding steps
step_more i x = ap (λ n. steps n x) (sym (add-one i))

pub drawn_more : (n loss x : ℕ) → drawn_counts (n + 1) loss x ≡ drawn_counts n loss x ++ drawn_count loss (steps (n + 1) x) ∷ []
unfolding drawn_counts
drawn_more n loss x = map-range_with_len_more (λ i. drawn_count loss (steps (i + 1) x)) 0 n n (omega arith)

-- a step of the loop that draws
pub ruleset drawing = (step_more, drawn_more, common_steps)

pub drawn_length : (n loss x : ℕ) → length (drawn_counts n loss x) ≡ n
unfolding drawn_counts
drawn_length n loss x = length-map-range_with_len (λ i. drawn_count loss (steps (i + 1) x)) 0 n

one : (loss x : ℕ) → drawn_count loss x ≤ 1
one loss x = grind (arith, common_steps)

pub drawn_single : (n loss x i : ℕ) → get_or (drawn_counts n loss x) i 0 ≤ 1
unfolding drawn_counts
drawn_single n loss x = each_counted (λ k. drawn_count loss (steps (k + 1) x)) 1 n (λ k. one loss (steps (k + 1) x))
