-- Sums with terms that are 0. Assumes nothing.
use Rattle.std.proofs.Common.{◌≡◌, ℕ, zero, suc, ◌+◌, ◌<◌, ◌≤◌, refl, ap, ◌∙◌, ap₂, le_trans, add-zero, add-suc, arith, lit≤}
use Rattle.field.specs.Fields.{Ops, Lawful}
use Rattle.field.proofs.Arithmetic.{zero-mul, mul-zero}
use Rattle.field.proofs.Elements.{elements}
use Rattle.algebra.specs.Frames.{summed}

module _ (o : Ops) (laws : Lawful o) where
  pub zero_code : 0 < o.size
  zero_code = le_trans (lit≤ tt) laws.size_least

  pub zero_times : (x : ℕ) → x < o.size → o.product 0 x ≡ 0
  zero_times x h = ap (λ e. e.0) (zero-mul (elements o laws) (x, h))

  pub times_zero : (x : ℕ) → x < o.size → o.product x 0 ≡ 0
  times_zero x h = ap (λ e. e.0) (mul-zero (elements o laws) (x, h))

  pub summed_closed : (n : ℕ) (g : ℕ → ℕ) → ((m : ℕ) → m < n → g m < o.size) → summed o n g < o.size
  unfolding summed
  summed_closed zero g h = zero_code
  summed_closed (suc n) g h = laws.sum_closed _ _ (summed_closed n g (λ m l. h m (omega arith))) (h n (omega arith))

  pub summed_zero : (n : ℕ) (g : ℕ → ℕ) → ((m : ℕ) → m < n → g m ≡ 0) → summed o n g ≡ 0
  unfolding summed
  summed_zero zero g h = refl
  summed_zero (suc n) g h = ap₂ o.sum (summed_zero n g (λ m l. h m (omega arith))) (h n (omega arith)) ∙ laws.sum_zero 0 zero_code

  pub summed_alike : (n : ℕ) (g h : ℕ → ℕ) → ((m : ℕ) → m < n → g m ≡ h m) → summed o n g ≡ summed o n h
  unfolding summed
  summed_alike zero g h e = refl
  summed_alike (suc n) g h e = ap₂ o.sum (summed_alike n g h (λ m l. e m (omega arith))) (e n (omega arith))

  -- terms that are 0 at the end add nothing
  pub summed_cut : (k d : ℕ) (g : ℕ → ℕ) → ((m : ℕ) → m < k + d → g m < o.size) → ((m : ℕ) → k ≤ m → m < k + d → g m ≡ 0) → summed o (k + d) g ≡ summed o k g
  unfolding summed
  summed_cut k zero g codes none = ap (λ n. summed o n g) (add-zero k)
  summed_cut k (suc d) g codes none =
      ap (λ n. summed o n g) (add-suc k d)
      ∙ ap (o.sum (summed o (k + d) g)) (none (k + d) (omega arith) (omega arith))
      ∙ laws.sum_zero _ (summed_closed (k + d) g (λ m l. codes m (omega arith)))
      ∙ summed_cut k d g (λ m l. codes m (omega arith)) (λ m low l. none m low (omega arith))
