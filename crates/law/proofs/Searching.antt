-- Searching the numbers below a bound. Assumes nothing.
use Rattle.std.proofs.Common.{ℕ, zero, suc, ◌<◌, ◌⊎◌, subst, inl, inr, not-suc-le-zero, arith}
use Rattle.std.proofs.lemmas.Bool.{cases_eq}

module _ (P : ℕ → Type 0) (decide : (i : ℕ) → P i ⊎ (P i → ⊥)) where
  -- the first number below n of which P holds
  pub record First (n : ℕ) : Type 0 where
    pub at : ℕ
    pub below : at < n
    pub holds : P at
    pub none_before : (j : ℕ) → j < at → P j → ⊥

  -- there is a first one, or none
  pub search_below : (n : ℕ) → First n ⊎ ((i : ℕ) → i < n → P i → ⊥)
  search_below zero = inr (λ i h. absurd (not-suc-le-zero h))
  search_below (suc n) =
      elim (search_below n) [
        | inl found ↦ inl (record { at = found.at; below = omega (arith, found.below); holds = found.holds; none_before = found.none_before })
        | inr none ↦ elim (decide n) [
          | inl yes-here ↦ inl (record { at = n; below = omega arith; holds = yes-here; none_before = none })
          | inr not-here ↦ inr (λ i h p. elim (cases_eq i n) [ inl e ↦ not-here (subst P e p) | inr ne ↦ none i (omega arith) p ])
        ]
      ]
