-- What is left of a frame by the rows, and a table with one frame more. Assumes nothing.
use Rattle.std.proofs.Common.{◌≡◌, ℕ, ◌<◌, ◌⊎◌, List, [], ◌∷◌, sym, ap, ◌∙◌, subst, ap₂, inl, inr, arith}
use Rattle.std.proofs.lemmas.Bool.{cases_eq, cases_lt}
use Rattle.field.proofs.Arithmetic.{Arithmetic, zero-mul, mul-zero, one-mul, sub_self, sub-zero, sub_zero_same}
use Rattle.algebra.proofs.Sums.{summed_none}
use Rattle.algebra.proofs.Vectors.{Vector, Linear, same, minus, sums, All, Span, span_linear, span_more, span_first, span_each, span_least, all_weaker}
use Rattle.algebra.proofs.Tables.{Table, Reduced, image, Fixed, fixed_linear, image_lead, row_fixed, image_fixed}

module _ {F : Type 0} (k : Arithmetic F) (n : ℕ) where
  -- the rows span what the frames span
  pub record Stands (t : Table F) (fs : List (Vector F)) : Type 0 where
    pub down : (v : Vector F) → Fixed k n t v → Span k fs v
    pub up : (v : Vector F) → Span k fs v → Fixed k n t v

  -- a table of no rows stands for no frames
  pub stands_none : (t : Table F) → ((m i : ℕ) → t m i ≡ k.zero) → Stands t []
  unfolding Fixed image All
  stands_none t blank = record {
    down = λ v fixed. same k (Span k []) (λ _. k.zero) v
        (λ i. sym (fixed i ∙ summed_none k n (λ m. k.mul (v m) (t m i)) (λ m h. ap (k.mul (v m)) (blank m i) ∙ mul-zero k (v m)))) (span_linear k []).none;
    up = span_least k (Fixed k n t) (fixed_linear k n t) [] tt;
  }

  module _ (t : Table F) (r : Reduced k n t) (f : Vector F) where
    -- what is left of the frame
    abbrev pub rest : Vector F
    rest i = k.sub (f i) (image k n t f i)

    pub rest_lead : (m : ℕ) → m < n → t m m ≡ k.one → rest m ≡ k.zero
    rest_lead m h e = ap (k.sub (f m)) (image_lead k n t r f m h e) ∙ sub_self k (f m)

    -- a frame is in the span exactly where nothing is left of it
    pub fixed_rest : Fixed k n t f → (i : ℕ) → rest i ≡ k.zero
    unfolding Fixed
    fixed_rest fixed i = ap (λ x. k.sub x (image k n t f i)) (fixed i) ∙ sub_self k (image k n t f i)

    pub rest_fixed : ((i : ℕ) → rest i ≡ k.zero) → Fixed k n t f
    unfolding Fixed
    rest_fixed none i = sub_zero_same k (f i) (image k n t f i) (none i)

    -- such a frame leaves the rows as they are
    pub stands_same : (fs : List (Vector F)) → Stands t fs → Fixed k n t f → Stands t (f ∷ fs)
    unfolding All
    stands_same fs s fixed = record {
      down = λ v h. span_more k f fs v (s.down v h);
      up = span_least k (Fixed k n t) (fixed_linear k n t) (f ∷ fs) (fixed, all_weaker k (Span k fs) (Fixed k n t) s.up fs (span_each k fs));
    }

    module _ (a : ℕ) (ha : a < n) (there : rest a ≡ k.zero → ⊥) (low : (i : ℕ) → i < a → rest i ≡ k.zero) where
      -- the new row: what is left, scaled to 1 at a
      abbrev pub scaled : Vector F
      scaled i = k.mul (k.inv (rest a)) (rest i)

      scaled_none : (i : ℕ) → rest i ≡ k.zero → scaled i ≡ k.zero
      scaled_none i e = ap (k.mul (k.inv (rest a))) e ∙ mul-zero k (k.inv (rest a))

      pub scaled_one : scaled a ≡ k.one
      scaled_one = k.mul_comm (k.inv (rest a)) (rest a) ∙ k.mul_inv (rest a) there

      -- the new lead was missing
      pub new_lead : (i : ℕ) → t a i ≡ k.zero
      new_lead = elim (r.lead a ha) [ inl e ↦ absurd (there (rest_lead a ha e)) | inr blank ↦ blank ]

      module _ (u : Table F) (new : (i : ℕ) → u a i ≡ scaled i)
          (old : (m : ℕ) → m < n → (m ≡ a → ⊥) → (i : ℕ) → u m i ≡ k.sub (t m i) (k.mul (t m a) (scaled i))) where
        -- a row keeps what it has where the new row has 0
        kept : (m i : ℕ) → m < n → (m ≡ a → ⊥) → scaled i ≡ k.zero → u m i ≡ t m i
        kept m i h ne e = old m h ne i ∙ ap (λ x. k.sub (t m i) (k.mul (t m a) x)) e ∙ ap (k.sub (t m i)) (mul-zero k (t m a)) ∙ sub-zero k (t m i)

        -- the other leads are as they were
        pub old_lead : (m : ℕ) → m < n → (m ≡ a → ⊥) → t m m ≡ k.one → u m m ≡ k.one
        old_lead m h ne e = kept m m h ne (scaled_none m (rest_lead m h e)) ∙ e

        pub old_blank : (m : ℕ) → m < n → (m ≡ a → ⊥) → ((i : ℕ) → t m i ≡ k.zero) → (i : ℕ) → u m i ≡ k.zero
        old_blank m h ne blank i =
            old m h ne i ∙ ap₂ (λ x y. k.sub x (k.mul y (scaled i))) (blank i) (blank a) ∙ ap (k.sub k.zero) (zero-mul k (scaled i)) ∙ sub_self k k.zero

        lead_before : (m : ℕ) → m < n → (m ≡ a → ⊥) → u m m ≡ k.one → t m m ≡ k.one
        lead_before m h ne e =
            elim (r.lead m h) [ inl l ↦ l | inr blank ↦ absurd (k.apart (sym e ∙ old_blank m h ne blank m)) ]

        pub reduced_inserted : Reduced k n u
        reduced_inserted = record {
          lead = λ m h. elim (cases_eq m a) [ inl z ↦ inl (subst (λ (j : ℕ). u j j ≡ k.one) (sym z) (new a ∙ scaled_one)) | inr ne ↦ other m h ne (r.lead m h) ];
          before = λ m i h l. elim (cases_eq m a) [
            | inl z ↦ ap (λ j. u j i) z ∙ new i ∙ scaled_none i (low i (omega arith))
            | inr ne ↦ elim (cases_lt i a) [
              | inl less ↦ kept m i h ne (scaled_none i (low i less)) ∙ r.before m i h l
              | inr more ↦ old m h ne i ∙ ap₂ (λ x y. k.sub x (k.mul y (scaled i))) (r.before m i h l) (r.before m a h (omega arith))
                  ∙ ap (k.sub k.zero) (zero-mul k (scaled i)) ∙ sub_self k k.zero
            ]
          ];
          column = λ j m hj hm e ne. elim (cases_eq m a) [
            | inl z ↦ subst (λ (b : ℕ). u j b ≡ k.zero) (sym z) (cleared j hj (λ y. ne (y ∙ sym z)))
            | inr apart ↦ elim (cases_eq j a) [
              | inl z ↦ ap (λ b. u b m) z ∙ new m ∙ scaled_none m (rest_lead m hm (lead_before m hm apart e))
              | inr other_row ↦ kept j m hj other_row (scaled_none m (rest_lead m hm (lead_before m hm apart e))) ∙ r.column j m hj hm (lead_before m hm apart e) ne
            ]
          ];
        }
          where
            other : (m : ℕ) → m < n → (m ≡ a → ⊥) → (t m m ≡ k.one) ⊎ ((i : ℕ) → t m i ≡ k.zero) → (u m m ≡ k.one) ⊎ ((i : ℕ) → u m i ≡ k.zero)
            other m h ne (inl e) = inl (old_lead m h ne e)
            other m h ne (inr blank) = inr (old_blank m h ne blank)

            cleared : (j : ℕ) → j < n → (j ≡ a → ⊥) → u j a ≡ k.zero
            cleared j hj ne = old j hj ne a ∙ ap (λ x. k.sub (t j a) (k.mul (t j a) x)) scaled_one ∙ ap (k.sub (t j a)) (k.mul-one (t j a)) ∙ sub_self k (t j a)

        -- a vector that the old rows make, the new ones make
        kept_fixed : (v : Vector F) → Fixed k n t v → Fixed k n u v
        unfolding Fixed image
        kept_fixed v fixed =
            same k (Fixed k n u) (image k n t v) v (λ i. sym (fixed i)) (sums k (Fixed k n u) (fixed_linear k n u) n v t old_row)
          where
            old_row : (m : ℕ) → m < n → Fixed k n u (t m)
            old_row m h =
                elim (cases_eq m a) [
                  | inl z ↦ same k (Fixed k n u) (λ _. k.zero) (t m) (λ i. sym (ap (λ j. t j i) z ∙ new_lead i)) (fixed_linear k n u).none
                  | inr ne ↦ same k (Fixed k n u) (λ i. k.add (u m i) (k.mul (t m a) (u a i))) (t m)
                      (λ i. ap₂ k.add (old m h ne i) (ap (k.mul (t m a)) (new i)) ∙ k.sub_add (t m i) (k.mul (t m a) (scaled i)))
                      ((fixed_linear k n u).plus (u m) (λ i. k.mul (t m a) (u a i)) (row_fixed k n u reduced_inserted m h)
                      ((fixed_linear k n u).times (t m a) (u a) (row_fixed k n u reduced_inserted a ha)))
                ]

        -- and the frame itself
        new_fixed : Fixed k n u f
        unfolding image
        new_fixed =
            same k (Fixed k n u) (λ i. k.add (k.mul (rest a) (u a i)) (image k n t f i)) f made
            ((fixed_linear k n u).plus (λ i. k.mul (rest a) (u a i)) (image k n t f)
            ((fixed_linear k n u).times (rest a) (u a) (row_fixed k n u reduced_inserted a ha))
            (kept_fixed (image k n t f) (image_fixed k n t r f)))
          where
            made : (i : ℕ) → k.add (k.mul (rest a) (u a i)) (image k n t f i) ≡ f i
            made i =
                ap (λ x. k.add x (image k n t f i)) (ap (k.mul (rest a)) (new i) ∙ sym (k.mul_assoc (rest a) (k.inv (rest a)) (rest i))
                ∙ ap (λ x. k.mul x (rest i)) (k.mul_inv (rest a) there) ∙ one-mul k (rest i))
                ∙ k.sub_add (f i) (image k n t f i)

        -- the new table stands for one frame more
        pub stands_inserted : (fs : List (Vector F)) → Stands t fs → Stands u (f ∷ fs)
        unfolding Fixed image All
        stands_inserted fs s = record {
          down = λ v fixed. same k (Span k (f ∷ fs)) (image k n u v) v (λ i. sym (fixed i)) (sums k (Span k (f ∷ fs)) (span_linear k (f ∷ fs)) n v u row_in);
          up = span_least k (Fixed k n u) (fixed_linear k n u) (f ∷ fs)
              (new_fixed, all_weaker k (Span k fs) (Fixed k n u) (λ v h. kept_fixed v (s.up v h)) fs (span_each k fs));
        }
          where
            linear : Linear k (Span k (f ∷ fs))
            linear = span_linear k (f ∷ fs)

            old_in : (m : ℕ) → m < n → Span k (f ∷ fs) (t m)
            old_in m h = span_more k f fs (t m) (s.down (t m) (row_fixed k n t r m h))

            rest_in : Span k (f ∷ fs) rest
            rest_in =
                same k (Span k (f ∷ fs)) (λ i. k.sub (f i) (k.mul k.one (image k n t f i))) rest (λ i. ap (k.sub (f i)) (one-mul k (image k n t f i)))
                (minus k (Span k (f ∷ fs)) linear k.one f (image k n t f) (span_first k f fs) (sums k (Span k (f ∷ fs)) linear n f t old_in))

            scaled_in : Span k (f ∷ fs) scaled
            scaled_in = linear.times (k.inv (rest a)) rest rest_in

            row_in : (m : ℕ) → m < n → Span k (f ∷ fs) (u m)
            row_in m h =
                elim (cases_eq m a) [
                  | inl z ↦ same k (Span k (f ∷ fs)) scaled (u m) (λ i. sym (ap (λ j. u j i) z ∙ new i)) scaled_in
                  | inr ne ↦ same k (Span k (f ∷ fs)) (λ i. k.sub (t m i) (k.mul (t m a) (scaled i))) (u m) (λ i. sym (old m h ne i))
                      (minus k (Span k (f ∷ fs)) linear (t m a) (t m) scaled (old_in m h) scaled_in)
                ]
