-- A row put into a table, row after row. Assumes nothing.
use Rattle.std.proofs.Common.{◌≡◌, ℕ, ◌+◌, ◌<◌, ◌≤◌, List, [], map, length, get_or, set, vec_items, Vec, sym, ap, ◌∙◌, subst, ap₂, inl, inr, le_refl, arith}
use Rattle.std.specs.declared.alloc.Global.{Global}
use Rattle.std.proofs.lemmas.List.{ext_get_or, get_or-map, get_or-set_same, get_or-set_other, length-map, map-set}
use Rattle.std.proofs.lemmas.Bool.{cases_eq}
use Rattle.field.specs.Fields.{Ops}
use Rattle.algebra.specs.Frames.{code_at}
use Rattle.elimination.specs.Rows.{less_multiple}
use Rattle.elimination.specs.Reduction.{lists, with_row}

-- an old row less the new one, as often as it has packet a
abbrev pub cleared : Ops → ℕ → List ℕ → List ℕ → List ℕ
cleared o a row old = less_multiple o old (code_at old a) row

pub at_list : (t : List (Vec ℕ Global)) (m : ℕ) (d : Vec ℕ Global) → m < length t → get_or (lists t) m [] ≡ vec_items (get_or t m d)
at_list t m d h = get_or-map vec_items t m d [] h

module _ (o : Ops) (a : ℕ) (row : List ℕ) (before : List (Vec ℕ Global)) where
  -- the rows below m are cleared, the others are as they were
  pub record Cleared (m : ℕ) (t : List (Vec ℕ Global)) : Type 0 where
    pub done : (j : ℕ) → j < m → get_or (lists t) j [] ≡ cleared o a row (get_or (lists before) j [])
    pub rest : (j : ℕ) → m ≤ j → get_or (lists t) j [] ≡ get_or (lists before) j []

  pub cleared_more : (m : ℕ) (t : List (Vec ℕ Global)) (d v : Vec ℕ Global) → m < length t → Cleared m t → vec_items v ≡ cleared o a row (vec_items (get_or t m d)) → Cleared (m + 1) (set t m v)
  cleared_more m t d v h c e = record {
    done = λ j l. elim (cases_eq j m) [
      | inl z ↦ subst (λ (i : ℕ). get_or (lists (set t m v)) i [] ≡ cleared o a row (get_or (lists before) i [])) (sym z) here
      | inr ne ↦ other j ne ∙ c.done j (omega arith)
    ];
    rest = λ j l. other j (λ z. omega arith) ∙ c.rest j (omega arith);
  }
    where
      listed : lists (set t m v) ≡ set (lists t) m (vec_items v)
      listed = map-set vec_items t m v

      here : get_or (lists (set t m v)) m [] ≡ cleared o a row (get_or (lists before) m [])
      here =
          ap (λ xs. get_or xs m []) listed ∙ get_or-set_same (lists t) m (vec_items v) [] (subst (λ (n : ℕ). m < n) (sym (length-map t vec_items)) h)
          ∙ e ∙ ap (cleared o a row) (sym (at_list t m d h) ∙ c.rest m (le_refl m))

      other : (j : ℕ) → (j ≡ m → ⊥) → get_or (lists (set t m v)) j [] ≡ get_or (lists t) j []
      other j ne = ap (λ xs. get_or xs j []) listed ∙ get_or-set_other (lists t) m j (vec_items v) [] ne

  pub cleared_all : (m : ℕ) (t : List (Vec ℕ Global)) (v : Vec ℕ Global) → length t ≡ length before → length before ≤ m → Cleared m t → vec_items v ≡ row
      → lists (set t a v) ≡ with_row o (lists before) a row
  unfolding with_row
  cleared_all m t v long end c e =
      map-set vec_items t a v ∙ ap₂ (λ xs x. set xs a x) all e
    where
      all : lists t ≡ map (cleared o a row) (lists before)
      all =
          ext_get_or [] (lists t) (map (cleared o a row) (lists before))
          (length-map t vec_items ∙ long ∙ sym (length-map (lists before) (cleared o a row) ∙ length-map before vec_items))
          (λ j h. let short : j < length (lists before) = subst (λ (n : ℕ). j < n) (length-map t vec_items ∙ long ∙ sym (length-map before vec_items)) h in
          c.done j (omega (arith, length-map before vec_items)) ∙ sym (get_or-map (cleared o a row) (lists before) j [] [] short))
