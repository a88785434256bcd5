-- The test that every number of a row is a code, and its meaning. Assumes nothing.
use Rattle.std.proofs.Common.{◌≡◌, ℕ, ◌<◌, true, ltb, List, get_or, subst}
use Rattle.std.proofs.lemmas.List.Sums.{AllPass-from_list_all, list_all-from_AllPass}
use Rattle.std.proofs.lemmas.List.{get_or_default}
use Rattle.std.proofs.lemmas.Bool.{lt-ltb, ltb-true}
use Rattle.algebra.specs.Frames.{Codes}
use Rattle.elimination.specs.Rows.{are_codes}

-- a row that passes has codes alone
pub codes_from_test : (q : ℕ) (row : List ℕ) → are_codes q row ≡ true → Codes q row
codes_from_test q row t i h = ltb-true (get_or row i 0) q (AllPass-from_list_all (λ c. ltb c q) row t i 0 h)

-- and a row of codes passes
pub test_from_codes : (q : ℕ) (row : List ℕ) → Codes q row → are_codes q row ≡ true
test_from_codes q row codes =
    list_all-from_AllPass (λ c. ltb c q) row
    (λ k d h. lt-ltb (get_or row k d) q (subst (λ (x : ℕ). x < q) (get_or_default row k 0 d h) (codes k h)))
