-- A test that antt computes at every number below n, and what it shows. Assumes nothing.
use Rattle.std.specs.Prelude.{◌≡◌, ℕ, ◌<◌, Bool, true}
use Rattle.std.proofs.lemmas.Bool.{agree_below, agree_below_at}

-- f passes at every number below n
abbrev pub all_below : (ℕ → Bool) → ℕ → Bool
all_below f = agree_below f (λ _. true)

pub passes : (f : ℕ → Bool) (n : ℕ) → all_below f n ≡ true → (k : ℕ) → k < n → f k ≡ true
passes f n t k h = agree_below_at f (λ _. true) n k t h
