-- Fewer values than codes leave a code free. Assumes nothing.
use Rattle.std.proofs.Common.{◌≡◌, ℕ, zero, suc, ◌<◌, ◌≤◌, ◌⊎◌, List, [], ◌∷◌, length, sym, ap, ◌∙◌, subst, inl, inr, not-suc-le-zero, arith}
use Rattle.std.proofs.lemmas.Bool.{cases_eq}

-- a number is not in a list
pub Absent : ℕ → List ℕ → Type 0
Absent c [] = Unit {0}
Absent c (v ∷ vs) = (v ≡ c → ⊥) × Absent c vs

-- a list without a number: fewer elements where it was there, and nothing else gone
record Without (x : ℕ) (vs : List ℕ) : Type 0 where
  rest : List ℕ
  shorter : (length rest < length vs) ⊎ Absent x vs
  long : length rest ≤ length vs
  same : (c : ℕ) → (c ≡ x → ⊥) → Absent c rest → Absent c vs

without : (x : ℕ) (vs : List ℕ) → Without x vs
unfolding Absent
without x [] = record { rest = []; shorter = inr tt; long = omega arith; same = λ c ne a. tt }
without x (v ∷ vs) =
    let w = without x vs in
    elim (cases_eq v x) [
      | inl e ↦ record {
        rest = w.rest;
        shorter = inl (omega (arith, w.long));
        long = omega (arith, w.long);
        same = λ c ne a. ((λ z. ne (sym z ∙ e)), w.same c ne a);
      }
      | inr ne ↦ record {
        rest = v ∷ w.rest;
        shorter = elim w.shorter [ inl less ↦ inl (omega arith) | inr none ↦ inr (ne, none) ];
        long = omega (arith, w.long);
        same = λ c other a. (a.0, w.same c other a.1);
      }
    ]

-- a code below n that is not in a list of fewer than n numbers
pub free_below : (n : ℕ) (vs : List ℕ) → length vs < n → (c : ℕ) × ((c < n) × Absent c vs)
free_below zero vs h = absurd (not-suc-le-zero h)
free_below (suc n) vs h =
    let w = without n vs in
    elim w.shorter [
      | inr none ↦ (n, (omega arith, none))
      | inl less ↦ let found = free_below n w.rest (omega arith) in
          (found.0, (omega (arith, found.1.0), w.same found.0 (λ e. omega (arith, found.1.0, e)) found.1.1))
    ]

module _ (D : ℕ → Type 0) (decide : (i : ℕ) → D i ⊎ (D i → ⊥)) (g : ℕ → ℕ) where
  -- the values of g at the numbers below r of which D holds
  record Values (r : ℕ) : Type 0 where
    list : List ℕ
    long : length list ≤ r
    fewer : (j : ℕ) → j < r → (D j → ⊥) → length list < r
    all : (c : ℕ) → Absent c list → (i : ℕ) → i < r → D i → g i ≡ c → ⊥

  values : (r : ℕ) → Values r
  unfolding Absent
  values zero = record { list = []; long = omega arith; fewer = λ j h. absurd (not-suc-le-zero h); all = λ c a i h. absurd (not-suc-le-zero h) }
  values (suc r) =
      let v = values r in
      elim (decide r) [
        | inl here ↦ record {
          list = g r ∷ v.list;
          long = omega (arith, v.long);
          fewer = λ j h none. elim (cases_eq j r) [ inl e ↦ absurd (none (subst D (sym e) here)) | inr ne ↦ omega (arith, v.fewer j (omega arith) none) ];
          all = λ c a i h d. elim (cases_eq i r) [ inl e ↦ (λ z. a.0 (ap g (sym e) ∙ z)) | inr ne ↦ v.all c a.1 i (omega arith) d ];
        }
        | inr none_here ↦ record {
          list = v.list;
          long = omega (arith, v.long);
          fewer = λ j h none. omega (arith, v.long);
          all = λ c a i h d. elim (cases_eq i r) [ inl e ↦ absurd (none_here (subst D e d)) | inr ne ↦ v.all c a i (omega arith) d ];
        }
      ]

  -- where D does not hold of some number below r, and there are at least r codes, g leaves one free
  pub free_value : (r n : ℕ) → r ≤ n → (j : ℕ) → j < r → (D j → ⊥) → (c : ℕ) × ((c < n) × ((i : ℕ) → i < r → D i → g i ≡ c → ⊥))
  free_value r n h j hj none =
      let v = values r in
      let found = free_below n v.list (omega (arith, v.fewer j hj none)) in
      (found.0, (found.1.0, v.all found.0 found.1.1))
