-- Vectors over a field, sets of them that are closed under sums and multiples, and spans. Assumes nothing.
use Rattle.std.proofs.Common.{◌≡◌, ℕ, zero, suc, ◌<◌, List, [], ◌∷◌, length, get_or, sym, refl, ap, ◌∙◌, subst, ap₂, le_of_suc-le-suc, not-suc-le-zero, arith}
use mathlib.Core.Path.{fun_ext}
use Rattle.field.proofs.Arithmetic.{Arithmetic, zero-add, zero-mul, mul-zero, one-mul, add-mul, add_negative_multiple}
use Rattle.algebra.proofs.Sums.{add_swap, summed, summed_front}

abbrev pub Vector : Type 0 → Type 0
Vector F = ℕ → F

module _ {F : Type 0} (k : Arithmetic F) where
  -- a set of vectors that is closed under sums and multiples
  pub record Linear (S : Vector F → Type 0) : Type 0 where
    pub none : S (λ _. k.zero)
    pub plus : (v w : Vector F) → S v → S w → S (λ i. k.add (v i) (w i))
    pub times : (c : F) (v : Vector F) → S v → S (λ i. k.mul c (v i))

  pub same : (S : Vector F → Type 0) (v w : Vector F) → ((i : ℕ) → v i ≡ w i) → S v → S w
  same S v w e = subst S (fun_ext e)

  -- it has differences too
  pub minus : (S : Vector F → Type 0) → Linear S → (c : F) (v w : Vector F) → S v → S w → S (λ i. k.sub (v i) (k.mul c (w i)))
  minus S l c v w hv hw =
      same S (λ i. k.add (v i) (k.mul (k.sub k.zero c) (w i))) (λ i. k.sub (v i) (k.mul c (w i)))
      (λ i. add_negative_multiple k (v i) c (w i))
      (l.plus v (λ i. k.mul (k.sub k.zero c) (w i)) hv (l.times (k.sub k.zero c) w hw))

  -- and finite sums of multiples
  pub sums : (S : Vector F → Type 0) → Linear S → (n : ℕ) (c : ℕ → F) (t : ℕ → Vector F) → ((m : ℕ) → m < n → S (t m))
      → S (λ i. summed k n (λ m. k.mul (c m) (t m i)))
  unfolding summed
  sums S l zero c t h = l.none
  sums S l (suc n) c t h =
      l.plus (λ i. summed k n (λ m. k.mul (c m) (t m i))) (λ i. k.mul (c n) (t n i)) (sums S l n c t (λ m a. h m (omega arith))) (l.times (c n) (t n) (h n (omega arith)))

  -- the sum of multiples of frames: c 0 times the first, c 1 times the second, and so on
  unfoldable pub combination : (ℕ → F) → List (Vector F) → Vector F
  combination c [] i = k.zero
  combination c (f ∷ fs) i = k.add (k.mul (c 0) (f i)) (combination (λ j. c (suc j)) fs i)

  -- all of a list's vectors are in a set
  unfoldable pub All : (Vector F → Type 0) → List (Vector F) → Type 0
  All S [] = Unit {0}
  All S (f ∷ fs) = S f × All S fs

  pub all_weaker : (S R : Vector F → Type 0) → ((v : Vector F) → S v → R v) → (fs : List (Vector F)) → All S fs → All R fs
  unfolding All
  all_weaker S R h [] a = tt
  all_weaker S R h (f ∷ fs) a = (h f a.0, all_weaker S R h fs a.1)

  pub combinations : (S : Vector F → Type 0) → Linear S → (c : ℕ → F) (fs : List (Vector F)) → All S fs → S (combination c fs)
  unfolding combination All
  combinations S l c [] h = l.none
  combinations S l c (f ∷ fs) h =
      l.plus (λ i. k.mul (c 0) (f i)) (combination (λ j. c (suc j)) fs) (l.times (c 0) f h.0) (combinations S l (λ j. c (suc j)) fs h.1)

  combination_none : (fs : List (Vector F)) (i : ℕ) → combination (λ _. k.zero) fs i ≡ k.zero
  unfolding combination
  combination_none [] i = refl
  combination_none (f ∷ fs) i = ap₂ k.add (zero-mul k (f i)) (combination_none fs i) ∙ k.add-zero k.zero

  combination_plus : (c d : ℕ → F) (fs : List (Vector F)) (i : ℕ) → combination (λ j. k.add (c j) (d j)) fs i ≡ k.add (combination c fs i) (combination d fs i)
  unfolding combination
  combination_plus c d [] i = sym (k.add-zero k.zero)
  combination_plus c d (f ∷ fs) i =
      ap₂ k.add (add-mul k (c 0) (d 0) (f i)) (combination_plus (λ j. c (suc j)) (λ j. d (suc j)) fs i)
      ∙ add_swap k (k.mul (c 0) (f i)) (k.mul (d 0) (f i)) (combination (λ j. c (suc j)) fs i) (combination (λ j. d (suc j)) fs i)

  combination_times : (a : F) (c : ℕ → F) (fs : List (Vector F)) (i : ℕ) → combination (λ j. k.mul a (c j)) fs i ≡ k.mul a (combination c fs i)
  unfolding combination
  combination_times a c [] i = sym (mul-zero k a)
  combination_times a c (f ∷ fs) i =
      ap₂ k.add (k.mul_assoc a (c 0) (f i)) (combination_times a (λ j. c (suc j)) fs i)
      ∙ sym (k.mul-add a (k.mul (c 0) (f i)) (combination (λ j. c (suc j)) fs i))

  -- the set of all combinations of frames
  pub record Span (fs : List (Vector F)) (v : Vector F) : Type 0 where
    pub multiple : ℕ → F
    pub is : (i : ℕ) → v i ≡ combination multiple fs i

  pub span_linear : (fs : List (Vector F)) → Linear (Span fs)
  span_linear fs = record {
    none = record { multiple = λ _. k.zero; is = λ i. sym (combination_none fs i) };
    plus = λ v w a b. record {
      multiple = λ j. k.add (a.multiple j) (b.multiple j);
      is = λ i. ap₂ k.add (a.is i) (b.is i) ∙ sym (combination_plus a.multiple b.multiple fs i);
    };
    times = λ c v a. record {
      multiple = λ j. k.mul c (a.multiple j);
      is = λ i. ap (k.mul c) (a.is i) ∙ sym (combination_times c a.multiple fs i);
    };
  }

  -- a longer list spans more
  pub span_more : (f : Vector F) (fs : List (Vector F)) (v : Vector F) → Span fs v → Span (f ∷ fs) v
  unfolding combination
  span_more f fs v a = record {
    multiple = λ j. later a.multiple j;
    is = λ i. a.is i ∙ sym (ap (λ x. k.add x (combination a.multiple fs i)) (zero-mul k (f i)) ∙ zero-add k (combination a.multiple fs i));
  }
    where
      later : (ℕ → F) → ℕ → F
      later c zero = k.zero
      later c (suc j) = c j

  -- a frame is in the span of a list that begins with it
  pub span_first : (f : Vector F) (fs : List (Vector F)) → Span (f ∷ fs) f
  unfolding combination
  span_first f fs = record {
    multiple = first;
    is = λ i. sym (ap₂ k.add (one-mul k (f i)) (combination_none fs i) ∙ k.add-zero (f i));
  }
    where
      first : ℕ → F
      first zero = k.one
      first (suc j) = k.zero

  pub span_each : (fs : List (Vector F)) → All (Span fs) fs
  unfolding All
  span_each [] = tt
  span_each (f ∷ fs) = (span_first f fs, all_weaker (Span fs) (Span (f ∷ fs)) (span_more f fs) fs (span_each fs))

  -- a linear set that has the frames has their span
  pub span_least : (S : Vector F → Type 0) → Linear S → (fs : List (Vector F)) → All S fs → (v : Vector F) → Span fs v → S v
  span_least S l fs all v a = same S (combination a.multiple fs) v (λ i. sym (a.is i)) (combinations S l a.multiple fs all)

  -- one vector more before each of two lists keeps their spans in order
  pub span_under : (f : Vector F) (gs fs : List (Vector F)) → ((v : Vector F) → Span gs v → Span fs v) → (v : Vector F) → Span (f ∷ gs) v → Span (f ∷ fs) v
  unfolding All
  span_under f gs fs h =
      span_least (Span (f ∷ fs)) (span_linear (f ∷ fs)) (f ∷ gs)
      (span_first f fs, all_weaker (Span gs) (Span (f ∷ fs)) (λ v a. span_more f fs v (h v a)) gs (span_each gs))

  -- a combination as a sum over the places of the list
  pub combination_summed : (c : ℕ → F) (fs : List (Vector F)) (d : Vector F) (i : ℕ) → combination c fs i ≡ summed k (length fs) (λ m. k.mul (c m) (get_or fs m d i))
  unfolding combination summed
  combination_summed c [] d i = refl
  combination_summed c (f ∷ fs) d i =
      ap (k.add (k.mul (c 0) (f i))) (combination_summed (λ j. c (suc j)) fs d i) ∙ sym (summed_front k (length fs) (λ m. k.mul (c m) (get_or (f ∷ fs) m d i)))

  -- what holds at each place of a list holds of all of it
  pub all_from : (S : Vector F → Type 0) (fs : List (Vector F)) (d : Vector F) → ((m : ℕ) → m < length fs → S (get_or fs m d)) → All S fs
  unfolding All
  all_from S [] d h = tt
  all_from S (f ∷ fs) d h = (h 0 (omega arith), all_from S fs d (λ m l. h (suc m) (omega arith)))

  pub all_at : (S : Vector F → Type 0) (fs : List (Vector F)) (d : Vector F) → All S fs → (m : ℕ) → m < length fs → S (get_or fs m d)
  unfolding All
  all_at S [] d a m h = absurd (not-suc-le-zero h)
  all_at S (f ∷ fs) d a zero h = a.0
  all_at S (f ∷ fs) d a (suc m) h = all_at S fs d a.1 m (le_of_suc-le-suc h)
