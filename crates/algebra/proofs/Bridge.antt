-- From codes to elements and back: sums, combinations, spans and tables mean the same on both sides. Assumes nothing.
use Rattle.std.proofs.Common.{◌≡◌, ℕ, zero, suc, ◌+◌, ◌<◌, ◌⊎◌, List, [], ◌∷◌, map, length, get_or, sym, refl, ap, ◌∙◌, subst, ap₂, inl, inr, le_trans, not-suc-le-zero, arith, lit≤}
use Rattle.std.proofs.lemmas.Bool.{cases_lt}
use Rattle.std.proofs.lemmas.List.{get_or_past, get_or-map, length-map}
use Rattle.field.specs.Fields.{Ops, Lawful}
use Rattle.field.proofs.Arithmetic.{Arithmetic}
use Rattle.field.proofs.Elements.{Element, elements, same_code, none}
use Rattle.algebra.specs.Frames as frames
use Rattle.algebra.specs.Frames.{code_at, Codes, Frames, InSpan}
use Rattle.algebra.specs.Rows as rows
use Rattle.algebra.specs.Rows.{row_at, SameSpan, ReducedForm}
use Rattle.algebra.proofs.Sums.{summed, summed_same}
use Rattle.algebra.proofs.Vectors.{Vector, all_from, combination, combination_summed, Span, span_least}
use Rattle.algebra.proofs.Tables.{Table, Reduced, image, Fixed, fixed_linear, row_fixed}
use Rattle.algebra.proofs.Insertion.{Stands}

module _ (o : Ops) (laws : Lawful o) where
  abbrev pub k : Arithmetic (Element o)
  k = elements o laws

  -- the element of a code; what is no code is put at 0
  pub element : ℕ → Element o
  element x = elim (cases_lt x o.size) [ inl h ↦ (x, h) | inr _ ↦ none o laws ]

  pub element_code : (x : ℕ) → x < o.size → (element x).0 ≡ x
  unfolding element
  element_code x h = elim (cases_lt x o.size) as (λ c. (elim c as (λ _. Element o) [ inl l ↦ (x, l) | inr _ ↦ none o laws ]).0 ≡ x) [ inl l ↦ refl | inr g ↦ absurd (omega arith) ]

  pub zero_code : 0 < o.size
  zero_code = le_trans (lit≤ tt) laws.size_least

  -- all of a list of codes is codes, past its end too
  pub all_codes : (f : List ℕ) → Codes o.size f → (i : ℕ) → code_at f i < o.size
  all_codes f h i = elim (cases_lt i (length f)) [ inl l ↦ h i l | inr g ↦ subst (λ (x : ℕ). x < o.size) (sym (get_or_past f i 0 g)) zero_code ]

  -- a frame as a vector
  abbrev pub vector : List ℕ → Vector (Element o)
  vector f i = element (code_at f i)

  pub vector_code : (f : List ℕ) → Codes o.size f → (i : ℕ) → (vector f i).0 ≡ code_at f i
  vector_code f h i = element_code (code_at f i) (all_codes f h i)

  -- sums
  pub summed_code : (n : ℕ) (f : ℕ → Element o) (g : ℕ → ℕ) → ((i : ℕ) → i < n → (f i).0 ≡ g i) → (summed k n f).0 ≡ frames.summed o n g
  unfolding summed frames.summed
  summed_code zero f g h = refl
  summed_code (suc n) f g h = ap₂ o.sum (summed_code n f g (λ i l. h i (omega arith))) (h n (omega arith))

  -- combinations
  pub combination_code : (c : ℕ → Element o) (d : ℕ → ℕ) (fs : List (List ℕ)) → ((j : ℕ) → (c j).0 ≡ d j) → ((m : ℕ) → m < length fs → Codes o.size (get_or fs m []))
      → (i : ℕ) → (combination k c (map vector fs) i).0 ≡ frames.combination o d fs i
  unfolding combination frames.combination
  combination_code c d [] e h i = refl
  combination_code c d (f ∷ fs) e h i =
      ap₂ o.sum (ap₂ o.product (e 0) (vector_code f (h 0 (omega arith)) i))
      (combination_code (λ j. c (suc j)) (λ j. d (suc j)) fs (λ j. e (suc j)) (λ m l. h (suc m) (omega arith)) i)

  -- spans
  pub span_up : (fs : List (List ℕ)) → ((m : ℕ) → m < length fs → Codes o.size (get_or fs m [])) → (v : Vector (Element o))
      → InSpan o fs (λ i. (v i).0) → Span k (map vector fs) v
  span_up fs h v s = record {
    multiple = λ j. (s.multiple j, s.codes j);
    is = λ i. same_code (s.is i ∙ sym (combination_code (λ j. (s.multiple j, s.codes j)) s.multiple fs (λ j. refl) h i));
  }

  pub span_down : (fs : List (List ℕ)) → ((m : ℕ) → m < length fs → Codes o.size (get_or fs m [])) → (v : Vector (Element o))
      → Span k (map vector fs) v → InSpan o fs (λ i. (v i).0)
  span_down fs h v s = record {
    multiple = λ j. (s.multiple j).0;
    codes = λ j. (s.multiple j).1;
    is = λ i. ap (λ e. e.0) (s.is i) ∙ combination_code s.multiple (λ j. (s.multiple j).0) fs (λ j. refl) h i;
  }

  -- a table of rows
  abbrev pub table : List (List ℕ) → Table (Element o)
  table rs m = vector (get_or rs m [])

  module _ (n l : ℕ) (rs : List (List ℕ)) (shaped : Frames o.size (n + l) rs) where
    pub row_codes : (m : ℕ) → Codes o.size (get_or rs m [])
    row_codes m =
        elim (cases_lt m (length rs)) [
          | inl h ↦ (shaped m h).codes
          | inr g ↦ subst (Codes o.size) (sym (get_or_past rs m [] g)) (λ i h. absurd (not-suc-le-zero h))
        ]

    pub row_code : (m i : ℕ) → (table rs m i).0 ≡ row_at rs m i
    row_code m = vector_code (get_or rs m []) (row_codes m)

    pub frame_codes : (m : ℕ) → m < length rs → Codes o.size (get_or rs m [])
    frame_codes m h = (shaped m h).codes

    -- the reduced form
    pub reduced_up : rows.Reduced n rs → Reduced k n (table rs)
    reduced_up r = record {
      lead = λ m h. either m (r.lead m h);
      before = λ m i h l. same_code (row_code m i ∙ r.before m i h l);
      column = λ j m hj hm e ne. same_code (row_code j m ∙ r.column j m hj hm (sym (row_code m m) ∙ ap (λ x. x.0) e) ne);
    }
      where
        either : (m : ℕ) → (row_at rs m m ≡ 1) ⊎ ((i : ℕ) → row_at rs m i ≡ 0) → (table rs m m ≡ k.one) ⊎ ((i : ℕ) → table rs m i ≡ k.zero)
        either m (inl e) = inl (same_code (row_code m m ∙ e))
        either m (inr z) = inr (λ i. same_code (row_code m i ∙ z i))

    pub reduced_down : length rs ≡ n → Reduced k n (table rs) → rows.Reduced n rs
    reduced_down tall r = record {
      tall = tall;
      lead = λ m h. either m (r.lead m h);
      before = λ m i h l. sym (row_code m i) ∙ ap (λ x. x.0) (r.before m i h l);
      column = λ j m hj hm e ne. sym (row_code j m) ∙ ap (λ x. x.0) (r.column j m hj hm (same_code (row_code m m ∙ e)) ne);
    }
      where
        either : (m : ℕ) → (table rs m m ≡ k.one) ⊎ ((i : ℕ) → table rs m i ≡ k.zero) → (row_at rs m m ≡ 1) ⊎ ((i : ℕ) → row_at rs m i ≡ 0)
        either m (inl e) = inl (sym (row_code m m) ∙ ap (λ x. x.0) e)
        either m (inr z) = inr (λ i. sym (row_code m i) ∙ ap (λ x. x.0) (z i))

    module _ (tall : length rs ≡ n) (r : Reduced k n (table rs)) where
      -- the rows' span, as a list of frames and as a table
      pub fixed_span : (v : Vector (Element o)) → Fixed k n (table rs) v → Span k (map vector rs) v
      unfolding Fixed image
      fixed_span v fixed = record {
        multiple = v;
        is = λ i. fixed i ∙ ap (λ m. summed k m (λ j. k.mul (v j) (table rs j i))) (sym (length-map rs vector ∙ tall))
            ∙ summed_same k (length (map vector rs)) (λ j. k.mul (v j) (table rs j i)) (λ j. k.mul (v j) (get_or (map vector rs) j (λ _. k.zero) i))
            (λ j h. ap (λ row. k.mul (v j) (row i)) (sym (get_or-map vector rs j [] (λ _. k.zero) (subst (λ (m : ℕ). j < m) (length-map rs vector) h))))
            ∙ sym (combination_summed k v (map vector rs) (λ _. k.zero) i);
      }

      pub span_fixed : (v : Vector (Element o)) → Span k (map vector rs) v → Fixed k n (table rs) v
      span_fixed =
          span_least k (Fixed k n (table rs)) (fixed_linear k n (table rs)) (map vector rs)
          (all_from k (Fixed k n (table rs)) (map vector rs) (λ _. k.zero)
          (λ m h. let l : m < length rs = subst (λ (x : ℕ). m < x) (length-map rs vector) h in
          subst (Fixed k n (table rs)) (sym (get_or-map vector rs m [] (λ _. k.zero) l)) (row_fixed k n (table rs) r m (subst (λ (x : ℕ). m < x) tall l))))

      module _ (fs : List (List ℕ)) (framed : Frames o.size (n + l) fs) where
        codes_of : (m : ℕ) → m < length fs → Codes o.size (get_or fs m [])
        codes_of m h = (framed m h).codes

        pub stands_up : SameSpan o rs fs → Stands k n (table rs) (map vector fs)
        stands_up s = record {
          down = λ v fixed. span_up fs codes_of v (s.down (λ i. (v i).0) (λ i. (v i).1) (span_down rs frame_codes v (fixed_span v fixed)));
          up = λ v span. span_fixed v (span_up rs frame_codes v (s.up (λ i. (v i).0) (λ i. (v i).1) (span_down fs codes_of v span)));
        }

        pub stands_down : Stands k n (table rs) (map vector fs) → SameSpan o rs fs
        stands_down s = record {
          down = λ v h a. span_down fs codes_of (λ i. (v i, h i)) (s.down (λ i. (v i, h i)) (span_fixed (λ i. (v i, h i)) (span_up rs frame_codes (λ i. (v i, h i)) a)));
          up = λ v h a. span_down rs frame_codes (λ i. (v i, h i)) (fixed_span (λ i. (v i, h i)) (s.up (λ i. (v i, h i)) (span_up fs codes_of (λ i. (v i, h i)) a)));
        }
