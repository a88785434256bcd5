-- What is left of a frame, row after row. Assumes nothing.
use Rattle.std.proofs.Common.{◌≡◌, ℕ, zero, suc, ◌+◌, ◌<◌, ◌≤◌, List, [], length, get_or, vec_items, Vec, sym, refl, ap, ◌∙◌, subst, ap₂, le_trans, add-one, arith, lit≤}
use Rattle.std.specs.declared.alloc.Global.{Global}
use Rattle.std.proofs.lemmas.List.FromFn.{fill_by_all, length-map-range_with_len}
use Rattle.std.proofs.lemmas.List.{get_or-map, length-map}
use Rattle.field.specs.Fields.{Ops, Lawful}
use Rattle.field.proofs.Arithmetic.{sub-zero, sub_sub}
use Rattle.field.proofs.Elements.{elements}
use Rattle.algebra.specs.Frames.{code_at, Codes, summed}
use Rattle.algebra.specs.Rows.{row_at, rest_at}
use Rattle.elimination.specs.Rows.{Subtractable, less_multiple}
use Rattle.elimination.specs.Reduction.{lists, Reducible, rest_row}
use Rattle.elimination.proofs.Subtraction.{get_or_less, length_less}

-- a row that is read from a table
pub read_row : (table : List (Vec ℕ Global)) (m : ℕ) (v : Vec ℕ Global) (row : List ℕ) → m < length table → v ≡ get_or table m v → row ≡ vec_items v → row ≡ get_or (lists table) m []
read_row table m v row h e items = items ∙ ap vec_items e ∙ sym (get_or-map vec_items table m v [] h)

-- row m, with the coefficient that a frame has at its lead
pub record Turn (rows : List (List ℕ)) (f : List ℕ) (m : ℕ) (row : List ℕ) (factor : ℕ) : Type 0 where
  pub within : m < length rows
  pub row_is : row ≡ get_or rows m []
  pub factor_is : factor ≡ code_at f m

-- as the two are read in turn
pub read_turn : (table : List (Vec ℕ Global)) (f : List ℕ) (m : ℕ) (v : Vec ℕ Global) (row : List ℕ) (factor : ℕ)
    → (m < length table) × (m < length f) × ((d : Vec ℕ Global) → v ≡ get_or table m d) × ((d : ℕ) → factor ≡ get_or f m d) → row ≡ vec_items v → Turn (lists table) f m row factor
read_turn table f m v row factor read items = record {
  within = subst (λ (n : ℕ). m < n) (sym (length-map table vec_items)) read.0;
  row_is = read_row table m v row read.0 (read.2 v) items;
  factor_is = read.3 0;
}

module _ (o : Ops) (laws : Lawful o) (rows : List (List ℕ)) (f : List ℕ) where
  -- what the first m rows take away at place i
  abbrev pub taken : ℕ → ℕ → ℕ
  taken m i = summed o m (λ j. o.product (code_at f j) (row_at rows j i))

  -- the first m rows are taken away
  pub record Taken (m : ℕ) (rest : List ℕ) : Type 0 where
    pub long : length rest ≡ length f
    pub codes : Codes o.size rest
    pub left : (i : ℕ) → i < length f → get_or rest i 0 ≡ o.difference (code_at f i) (taken m i)

  module _ (room : List ℕ) (ok : Reducible o.size rows f room) where
    zero_code : 0 < o.size
    zero_code = le_trans (lit≤ tt) laws.size_least

    f_code : (i : ℕ) → i < length f → code_at f i < o.size
    f_code = ok.codes

    row_code : (m i : ℕ) → m < length rows → i < length f → row_at rows m i < o.size
    row_code m i hm hi = (ok.rows_frames m hm).codes i (subst (λ (w : ℕ). i < w) (sym (ok.rows_frames m hm).long) hi)

    product_code : (m i : ℕ) → m < length rows → i < length f → o.product (code_at f m) (row_at rows m i) < o.size
    product_code m i hm hi = laws.product_closed _ _ (f_code m (le_trans hm ok.fewer)) (row_code m i hm hi)

    taken_code : (m i : ℕ) → m ≤ length rows → i < length f → taken m i < o.size
    unfolding summed
    taken_code zero i hm hi = zero_code
    taken_code (suc m) i hm hi = laws.sum_closed _ _ (taken_code m i (omega arith) hi) (product_code m i hm hi)

    pub taken_none : Taken 0 f
    unfolding summed
    taken_none = record {
      long = refl;
      codes = ok.codes;
      left = λ i h. sym (ap (λ e. e.0) (sub-zero (elements o laws) (code_at f i, f_code i h)));
    }

    pub taken_fit : (m : ℕ) (rest row : List ℕ) (factor : ℕ) → Turn rows f m row factor → Taken m rest → Subtractable o.size rest factor row
    taken_fit m rest row factor turn t = record {
      long = ap length turn.row_is ∙ (ok.rows_frames m turn.within).long ∙ sym t.long;
      target_codes = t.codes;
      source_codes = subst (Codes o.size) (sym turn.row_is) (ok.rows_frames m turn.within).codes;
      factor_code = subst (λ (x : ℕ). x < o.size) (sym turn.factor_is) (f_code m (le_trans turn.within ok.fewer));
    }

    pub taken_more : (m : ℕ) (rest rest' row : List ℕ) (factor : ℕ) → Turn rows f m row factor → Taken m rest → rest' ≡ less_multiple o rest factor row → Codes o.size rest' → Taken (m + 1) rest'
    unfolding summed
    taken_more m rest rest' row factor turn t after codes = record {
      long = ap length after ∙ length_less o laws rest factor row ∙ t.long;
      codes = codes;
      left = λ i hi.
          ap (λ row. get_or row i 0) after ∙ get_or_less o laws rest factor row i (subst (λ (w : ℕ). i < w) (sym t.long) hi)
          ∙ ap₂ o.difference (t.left i hi) (ap₂ o.product turn.factor_is (ap (λ r. code_at r i) turn.row_is))
          ∙ ap (λ e. e.0) (sub_sub (elements o laws) (code_at f i, f_code i hi) (taken m i, taken_code m i (omega (arith, turn.within)) hi) (o.product (code_at f m) (row_at rows m i), product_code m i turn.within hi))
          ∙ ap (λ j. o.difference (code_at f i) (taken j i)) (sym (add-one m));
    }

    pub taken_all : (m : ℕ) (rest : List ℕ) → m ≡ length rows → Taken m rest → rest ≡ rest_row o rows f
    unfolding rest_row
    taken_all m rest e t =
        fill_by_all (rest_at o (length rows) rows f) rest (length f) 0 t.long (λ i h. t.left i h ∙ ap (λ j. o.difference (code_at f i) (taken j i)) e)

pub length_rest : (o : Ops) (rows : List (List ℕ)) (f : List ℕ) → length (rest_row o rows f) ≡ length f
unfolding rest_row
length_rest o rows f = length-map-range_with_len (rest_at o (length rows) rows f) 0 (length f)
