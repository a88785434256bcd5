-- Tables of rows by lead, in reduced form: membership is an equation, the form is unique, and a row can be put in. Assumes nothing.
use Rattle.std.proofs.Common.{◌≡◌, ℕ, ◌<◌, ◌⊎◌, sym, ap, ◌∙◌, ap₂, inl, inr}
use Rattle.std.proofs.lemmas.Bool.{cases_eq, cases_order}
use Rattle.field.proofs.Arithmetic.{Arithmetic, zero-mul, mul-zero, one-mul, add-mul, sub_self, sub_zero_same}
use Rattle.algebra.proofs.Sums.{summed, summed_same, summed_none, summed_add, summed_mul, summed_at}
use Rattle.algebra.proofs.Vectors.{Vector, Linear, minus, sums}

-- row m of a table is t m; a row that is not there is zero
abbrev pub Table : Type 0 → Type 0
Table F = ℕ → Vector F

module _ {F : Type 0} (k : Arithmetic F) (n : ℕ) where
  -- n rows by lead in reduced form: a row is 1 at its lead, 0 before it and at every other lead, or is not there
  pub record Reduced (t : Table F) : Type 0 where
    pub lead : (m : ℕ) → m < n → (t m m ≡ k.one) ⊎ ((i : ℕ) → t m i ≡ k.zero)
    pub before : (m i : ℕ) → m < n → i < m → t m i ≡ k.zero
    pub column : (j m : ℕ) → j < n → m < n → t m m ≡ k.one → (j ≡ m → ⊥) → t j m ≡ k.zero

  -- the combination of the rows by a vector's own coefficients
  unfoldable pub image : Table F → Vector F → Vector F
  image t v i = summed k n (λ m. k.mul (v m) (t m i))

  -- a vector that its own coefficients make from the rows
  unfoldable pub Fixed : Table F → Vector F → Type 0
  Fixed t v = (i : ℕ) → v i ≡ image t v i

  pub fixed_linear : (t : Table F) → Linear k (Fixed t)
  unfolding Fixed image
  fixed_linear t = record {
    none = λ i. sym (summed_none k n (λ m. k.mul k.zero (t m i)) (λ m h. zero-mul k (t m i)));
    plus = λ v w a b i.
        ap₂ k.add (a i) (b i) ∙ sym (summed_add k n (λ m. k.mul (v m) (t m i)) (λ m. k.mul (w m) (t m i)))
        ∙ summed_same k n (λ m. k.add (k.mul (v m) (t m i)) (k.mul (w m) (t m i))) (λ m. k.mul (k.add (v m) (w m)) (t m i)) (λ m h. sym (add-mul k (v m) (w m) (t m i)));
    times = λ c v a i.
        ap (k.mul c) (a i) ∙ sym (summed_mul k n c (λ m. k.mul (v m) (t m i)))
        ∙ summed_same k n (λ m. k.mul c (k.mul (v m) (t m i))) (λ m. k.mul (k.mul c (v m)) (t m i)) (λ m h. sym (k.mul_assoc c (v m) (t m i)));
  }

  module _ (t : Table F) (r : Reduced t) where
    -- the image keeps the coefficients at leads
    pub image_lead : (v : Vector F) (m : ℕ) → m < n → t m m ≡ k.one → image t v m ≡ v m
    unfolding image
    image_lead v m h e =
        summed_at k n m (λ j. k.mul (v j) (t j m)) h (λ j hj ne. ap (k.mul (v j)) (r.column j m hj h e ne) ∙ mul-zero k (v j))
        ∙ ap (k.mul (v m)) e ∙ k.mul-one (v m)

    -- each row is made by its own coefficients
    pub row_fixed : (m : ℕ) → m < n → Fixed t (t m)
    unfolding Fixed image
    row_fixed m h i = sym (summed_at k n m (λ j. k.mul (t m j) (t j i)) h others ∙ own (r.lead m h))
      where
        others : (j : ℕ) → j < n → (j ≡ m → ⊥) → k.mul (t m j) (t j i) ≡ k.zero
        others j hj ne =
            elim (r.lead j hj) [
              | inl e ↦ ap (λ x. k.mul x (t j i)) (r.column m j h hj e (λ z. ne (sym z))) ∙ zero-mul k (t j i)
              | inr blank ↦ ap (k.mul (t m j)) (blank i) ∙ mul-zero k (t m j)
            ]

        own : (t m m ≡ k.one) ⊎ ((a : ℕ) → t m a ≡ k.zero) → k.mul (t m m) (t m i) ≡ t m i
        own (inl e) = ap (λ x. k.mul x (t m i)) e ∙ one-mul k (t m i)
        own (inr blank) = ap (k.mul (t m m)) (blank i) ∙ mul-zero k (t m m) ∙ sym (blank i)

    -- and so is every combination of rows
    pub image_fixed : (v : Vector F) → Fixed t (image t v)
    unfolding image
    image_fixed v = sums k (Fixed t) (fixed_linear t) n v t row_fixed

    -- a vector of the rows' span that is 0 before a missing lead is 0 there
    pub missing_lead : (v : Vector F) (m : ℕ) → m < n → Fixed t v → ((i : ℕ) → i < m → v i ≡ k.zero) → ((i : ℕ) → t m i ≡ k.zero) → v m ≡ k.zero
    unfolding Fixed image
    missing_lead v m h fixed low blank = fixed m ∙ summed_none k n (λ j. k.mul (v j) (t j m)) each
      where
        each : (j : ℕ) → j < n → k.mul (v j) (t j m) ≡ k.zero
        each j hj =
            elim (cases_order j m) [
              | inl e ↦ ap (λ a. k.mul (v j) (t a m)) e ∙ ap (k.mul (v j)) (blank m) ∙ mul-zero k (v j)
              | inr (inl l) ↦ ap (λ x. k.mul x (t j m)) (low j l) ∙ zero-mul k (t j m)
              | inr (inr g) ↦ ap (k.mul (v j)) (r.before j m hj g) ∙ mul-zero k (v j)
            ]

    -- a vector of the rows' span that is 0 at every lead is 0
    pub zero_at_leads : (v : Vector F) → Fixed t v → ((m : ℕ) → m < n → t m m ≡ k.one → v m ≡ k.zero) → (i : ℕ) → v i ≡ k.zero
    unfolding Fixed image
    zero_at_leads v fixed at i = fixed i ∙ summed_none k n (λ j. k.mul (v j) (t j i)) each
      where
        each : (j : ℕ) → j < n → k.mul (v j) (t j i) ≡ k.zero
        each j hj =
            elim (r.lead j hj) [
              | inl e ↦ ap (λ x. k.mul x (t j i)) (at j hj e) ∙ zero-mul k (t j i)
              | inr blank ↦ ap (k.mul (v j)) (blank i) ∙ mul-zero k (v j)
            ]

  -- a packet is seen in a set of vectors when one of them begins with 1 at it
  pub record SeenIn (S : Vector F → Type 0) (m : ℕ) : Type 0 where
    pub vector : Vector F
    pub inside : S vector
    pub one_there : vector m ≡ k.one
    pub zero_before : (i : ℕ) → i < m → vector i ≡ k.zero

  -- a row is there exactly where its packet is seen
  pub seen_row : (t : Table F) → Reduced t → (m : ℕ) → m < n → t m m ≡ k.one → SeenIn (Fixed t) m
  seen_row t r m h e = record { vector = t m; inside = row_fixed t r m h; one_there = e; zero_before = λ i l. r.before m i h l }

  pub row_seen : (t : Table F) → Reduced t → (m : ℕ) → m < n → SeenIn (Fixed t) m → t m m ≡ k.one
  row_seen t r m h s =
      elim (r.lead m h) [
        | inl e ↦ e
        | inr blank ↦ absurd (k.apart (sym s.one_there ∙ missing_lead t r s.vector m h s.inside s.zero_before blank))
      ]

  -- two reduced tables with one span are one table
  pub one_table : (t u : Table F) → Reduced t → Reduced u → ((v : Vector F) → Fixed t v → Fixed u v) → ((v : Vector F) → Fixed u v → Fixed t v)
      → (m : ℕ) → m < n → (i : ℕ) → t m i ≡ u m i
  one_table t u rt ru to back m h i = by_lead (rt.lead m h) (ru.lead m h)
    where
      there : (a b : Table F) → Reduced a → Reduced b → ((v : Vector F) → Fixed a v → Fixed b v) → (j : ℕ) → j < n → a j j ≡ k.one → b j j ≡ k.one
      there a b ra rb go j hj e =
          let s = seen_row a ra j hj e in
          row_seen b rb j hj (record { vector = s.vector; inside = go s.vector s.inside; one_there = s.one_there; zero_before = s.zero_before })

      difference : Vector F
      difference a = k.sub (t m a) (k.mul k.one (u m a))

      at_leads : t m m ≡ k.one → u m m ≡ k.one → (j : ℕ) → j < n → u j j ≡ k.one → difference j ≡ k.zero
      at_leads et eu j hj e =
          elim (cases_eq m j) [
            | inl z ↦ ap₂ (λ x y. k.sub x (k.mul k.one y)) (ap (t m) (sym z) ∙ et) (ap (u m) (sym z) ∙ eu) ∙ ap (k.sub k.one) (k.mul-one k.one) ∙ sub_self k k.one
            | inr ne ↦ ap₂ (λ x y. k.sub x (k.mul k.one y)) (rt.column m j h hj (there u t ru rt back j hj e) ne) (ru.column m j h hj e ne)
                ∙ ap (k.sub k.zero) (mul-zero k k.one) ∙ sub_self k k.zero
          ]

      by_lead : (t m m ≡ k.one) ⊎ ((a : ℕ) → t m a ≡ k.zero) → (u m m ≡ k.one) ⊎ ((a : ℕ) → u m a ≡ k.zero) → t m i ≡ u m i
      by_lead (inl et) (inl eu) =
          sub_zero_same k (t m i) (k.mul k.one (u m i))
          (zero_at_leads u ru difference
          (minus k (Fixed u) (fixed_linear u) k.one (t m) (u m) (to (t m) (row_fixed t rt m h)) (row_fixed u ru m h))
          (at_leads et eu) i)
          ∙ one-mul k (u m i)
      by_lead (inl et) (inr blank) = absurd (k.apart (sym (there t u rt ru to m h et) ∙ blank m))
      by_lead (inr blank) (inl eu) = absurd (k.apart (sym (there u t ru rt back m h eu) ∙ blank m))
      by_lead (inr blank) (inr none) = blank i ∙ sym (none i)
