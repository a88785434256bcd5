-- Finite sums over a field. Assumes nothing.
use Rattle.std.proofs.Common.{◌≡◌, ℕ, zero, suc, ◌<◌, sym, refl, ap, ◌∙◌, ap₂, inl, inr, not-suc-le-zero, arith}
use Rattle.std.proofs.lemmas.Bool.{cases_eq}
use Rattle.field.proofs.Arithmetic.{Arithmetic, zero-add, mul-zero, sub_unique}

module _ {F : Type 0} (k : Arithmetic F) where
  -- four terms in another order
  pub add_swap : (a b c d : F) → k.add (k.add a b) (k.add c d) ≡ k.add (k.add a c) (k.add b d)
  add_swap a b c d =
      k.add_assoc a b (k.add c d)
      ∙ ap (k.add a) (sym (k.add_assoc b c d) ∙ ap (λ x. k.add x d) (k.add_comm b c) ∙ k.add_assoc c b d)
      ∙ sym (k.add_assoc a c (k.add b d))

  -- f 0 + .. + f (n - 1)
  unfoldable pub summed : ℕ → (ℕ → F) → F
  summed zero f = k.zero
  summed (suc n) f = k.add (summed n f) (f n)

  pub summed_same : (n : ℕ) (f g : ℕ → F) → ((i : ℕ) → i < n → f i ≡ g i) → summed n f ≡ summed n g
  unfolding summed
  summed_same zero f g h = refl
  summed_same (suc n) f g h = ap₂ k.add (summed_same n f g (λ i l. h i (omega arith))) (h n (omega arith))

  pub summed_none : (n : ℕ) (f : ℕ → F) → ((i : ℕ) → i < n → f i ≡ k.zero) → summed n f ≡ k.zero
  unfolding summed
  summed_none zero f h = refl
  summed_none (suc n) f h = ap₂ k.add (summed_none n f (λ i l. h i (omega arith))) (h n (omega arith)) ∙ k.add-zero k.zero

  pub summed_add : (n : ℕ) (f g : ℕ → F) → summed n (λ i. k.add (f i) (g i)) ≡ k.add (summed n f) (summed n g)
  unfolding summed
  summed_add zero f g = sym (k.add-zero k.zero)
  summed_add (suc n) f g = ap (λ x. k.add x (k.add (f n) (g n))) (summed_add n f g) ∙ add_swap (summed n f) (summed n g) (f n) (g n)

  pub summed_mul : (n : ℕ) (c : F) (f : ℕ → F) → summed n (λ i. k.mul c (f i)) ≡ k.mul c (summed n f)
  unfolding summed
  summed_mul zero c f = sym (mul-zero k c)
  summed_mul (suc n) c f = ap (λ x. k.add x (k.mul c (f n))) (summed_mul n c f) ∙ sym (k.mul-add c (summed n f) (f n))

  pub summed_sub : (n : ℕ) (f g : ℕ → F) → summed n (λ i. k.sub (f i) (g i)) ≡ k.sub (summed n f) (summed n g)
  summed_sub n f g =
      sub_unique k (summed n f) (summed n g) (summed n (λ i. k.sub (f i) (g i)))
      (sym (summed_add n (λ i. k.sub (f i) (g i)) g) ∙ summed_same n (λ i. k.add (k.sub (f i) (g i)) (g i)) f (λ i _. k.sub_add (f i) (g i)))

  -- sums of sums in either order
  pub summed_swap : (n m : ℕ) (f : ℕ → ℕ → F) → summed n (λ i. summed m (f i)) ≡ summed m (λ j. summed n (λ i. f i j))
  unfolding summed
  summed_swap zero m f = sym (summed_none m (λ j. k.zero) (λ j l. refl))
  summed_swap (suc n) m f =
      ap (λ x. k.add x (summed m (f n))) (summed_swap n m f) ∙ sym (summed_add m (λ j. summed n (λ i. f i j)) (f n))

  -- a sum with one term that is not 0
  pub summed_at : (n a : ℕ) (f : ℕ → F) → a < n → ((i : ℕ) → i < n → (i ≡ a → ⊥) → f i ≡ k.zero) → summed n f ≡ f a
  unfolding summed
  summed_at zero a f h others = absurd (not-suc-le-zero h)
  summed_at (suc n) a f h others =
      elim (cases_eq a n) [
        | inl e ↦ ap (λ x. k.add x (f n)) (summed_none n f (λ i l. others i (omega arith) (λ z. omega arith))) ∙ zero-add k (f n) ∙ ap f (sym e)
        | inr ne ↦ ap₂ k.add (summed_at n a f (omega arith) (λ i l z. others i (omega arith) z)) (others n (omega arith) (λ z. ne (sym z))) ∙ k.add-zero (f a)
      ]

  -- a sum with its first term apart
  pub summed_front : (n : ℕ) (f : ℕ → F) → summed (suc n) f ≡ k.add (f 0) (summed n (λ i. f (suc i)))
  unfolding summed
  summed_front zero f = k.add_comm k.zero (f 0)
  summed_front (suc n) f = ap (λ x. k.add x (f (suc n))) (summed_front n f) ∙ k.add_assoc (f 0) (summed n (λ i. f (suc i))) (f (suc n))
