-- A sound table stays sound when a frame puts a row in. Assumes nothing.
use Rattle.std.proofs.Common.{◌≡◌, ℕ, ◌+◌, ◌-◌, ◌<◌, ◌≤◌, ◌⊎◌, List, [], ◌∷◌, map, length, get_or, replicate, take, vec_items, Vec, Bool, true, false, MatchBool, zero-add, sym, refl, ap, ◌∙◌, subst, ap₂, inl, inr, arith}
use mathlib.Core.HLevel.{Π_prop}
use mathlib.Core.Logic.{∥∥₁_elim}
use native.Mathlib.Bridge.{le_prop}
use native.Mathlib.Nat.{ℕ_set}
use Rattle.std.specs.List.{enumerate_from, AllWithin, HoldsAt}
use Rattle.std.specs.declared.alloc.Global.{Global}
use Rattle.std.proofs.lemmas.List.FromFn.{get_or-map-range_with_len, length-map-range_with_len, length-enumerate_from, get_or-enumerate_from}
use Rattle.std.proofs.lemmas.List.{get_or-map, get_or_past, get_or-replicate, get_or-set_same, get_or-set_other, get_or-take, length-take-le, length-map, length-replicate, length-set}
use Rattle.std.proofs.lemmas.Bool.{cases_eq, cases_lt}
use Rattle.field.specs.Fields.{Ops, Lawful}
use Rattle.algebra.specs.Frames.{code_at, Codes, Frame, Frames, InSpan}
use Rattle.algebra.specs.Packets.{Bare, BecomesSeen, Conflicts}
use Rattle.algebra.specs.Rows.{row_at, Reduced, ReducedForm, rest_at, scaled_at, Inserted}
use Rattle.algebra.proofs.Forms.{inserted_form, inserted_seen, nothing_left, rest_past, symbol_left}
use Rattle.elimination.specs.Reduction.{lists, rest_row, NoCoefficient, FirstCoefficient, multiple, Insertable, with_row, Spanned, NewRow}
use Rattle.elimination.specs.Sound.{Sound}
use Rattle.elimination.proofs.Remainder.{length_rest, read_row}
use Rattle.elimination.proofs.Storing.{cleared}
use Rattle.elimination.proofs.Subtraction.{less_closed, get_or_less, length_less}

-- these say nothing but facts, so each has one proof at most
codes_prop : (q : ℕ) (f : List ℕ) → IsProp (Codes q f)
codes_prop q f = Π_prop (λ i. Π_prop (λ h. le_prop))

frame_prop : (q w : ℕ) (f : List ℕ) → IsProp (Frame q w f)
frame_prop q w f x y i = record { long = ℕ_set (length f) w x.long y.long i; codes = codes_prop q f x.codes y.codes i }

frames_prop : (q w : ℕ) (fs : List (List ℕ)) → IsProp (Frames q w fs)
frames_prop q w fs = Π_prop (λ m. Π_prop (λ h. frame_prop q w (get_or fs m [])))

lead_prop : (rows : List (List ℕ)) (m : ℕ) → IsProp ((row_at rows m m ≡ 1) ⊎ ((i : ℕ) → row_at rows m i ≡ 0))
lead_prop rows m (inl x) (inl y) = ap inl (ℕ_set (row_at rows m m) 1 x y)
lead_prop rows m (inl x) (inr y) = absurd (omega (arith, x, y m))
lead_prop rows m (inr x) (inl y) = absurd (omega (arith, y, x m))
lead_prop rows m (inr x) (inr y) = ap inr (Π_prop (λ i. ℕ_set (row_at rows m i) 0) x y)

reduced_prop : (n : ℕ) (rows : List (List ℕ)) → IsProp (Reduced n rows)
reduced_prop n rows x y i = record {
  tall = ℕ_set (length rows) n x.tall y.tall i;
  lead = Π_prop (λ m. Π_prop (λ h. lead_prop rows m)) x.lead y.lead i;
  before = Π_prop (λ m. Π_prop (λ j. Π_prop (λ h. Π_prop (λ g. ℕ_set (row_at rows m j) 0)))) x.before y.before i;
  column = Π_prop (λ j. Π_prop (λ m. Π_prop (λ hj. Π_prop (λ hm. Π_prop (λ e. Π_prop (λ ne. ℕ_set (row_at rows j m) 0)))))) x.column y.column i;
}

sound_prop : (q n l : ℕ) (rows : List (List ℕ)) → IsProp (Sound q n l rows)
sound_prop q n l rows x y i = record { frames = frames_prop q (n + l) rows x.frames y.frames i; reduced = reduced_prop n rows x.reduced y.reduced i }

-- the invariant of a table, for a field of its size
pub sound_at : {s q n l : ℕ} {rows : List (List ℕ)} → s ≡ q → ∥ Sound q n l rows ∥₁ → Sound s n l rows
sound_at {s} {q} {n} {l} {rows} e sound = subst (λ (x : ℕ). Sound x n l rows) (sym e) (∥∥₁_elim sound (sound_prop q n l rows) (λ a. a))

module _ (o : Ops) (laws : Lawful o) (n l : ℕ) (rows : List (List ℕ)) (sound : Sound o.size n l rows) where
  -- rows in reduced form are their own reduced form
  pub own : ReducedForm o n l rows rows
  own = record { frames = sound.frames; rows_frames = sound.frames; reduced = sound.reduced; same_span = record { down = λ v h s. s; up = λ v h s. s } }

  module _ (f : List ℕ) (frame : Frame o.size (n + l) f) where
    -- what is left, place by place
    rest_is : (i : ℕ) → i < n + l → code_at (rest_row o rows f) i ≡ rest_at o n rows f i
    unfolding rest_row
    rest_is i h =
        get_or-map-range_with_len (rest_at o (length rows) rows f) 0 (length f) i i 0 (subst (λ (w : ℕ). i < w) (sym frame.long) h) (omega arith)
        ∙ ap (λ m. rest_at o m rows f i) sound.reduced.tall

    rest_long : length (rest_row o rows f) ≡ n + l
    rest_long = length_rest o rows f ∙ frame.long

    -- a frame of which nothing is left is in the span
    pub spanned : (rest : List ℕ) → Spanned o rows f rest → NoCoefficient (length rest) rest → InSpan o rows (code_at f)
    spanned rest left none =
        (nothing_left o laws n l rows rows own f frame).1
        (λ i. elim (cases_lt i (n + l)) [
          | inl h ↦ sym (rest_is i h) ∙ ap (λ r. code_at r i) (sym left.rest_is) ∙ none i (subst (λ (w : ℕ). i < w) (sym (ap length left.rest_is ∙ rest_long)) h)
          | inr g ↦ rest_past o laws n l rows rows own f frame i g
        ])

    -- one of which symbols are left and no coefficient is in conflict with the rows
    pub conflicting : (rest : List ℕ) → Spanned o rows f rest → (a : ℕ) → FirstCoefficient (length rest) rest a → Conflicts o n l rows f
    conflicting rest left a first =
        symbol_left o laws n l rows rows own f frame bare (a - n) (omega (arith, short, past))
        (subst (λ (x : ℕ). 0 < x) (ap (λ r. code_at r a) left.rest_is ∙ rest_is a short ∙ ap (rest_at o n rows f) there) first.there)
      where
        bare : (i : ℕ) → i < n → rest_at o n rows f i ≡ 0
        bare i h = sym (rest_is i (omega arith)) ∙ left.none i (subst (λ (m : ℕ). i < m) (sym sound.reduced.tall) h)

        short : a < n + l
        short = subst (λ (w : ℕ). a < w) (ap length left.rest_is ∙ rest_long) first.within

        past : n ≤ a
        past =
            elim (cases_lt a n) [
              | inl h ↦ absurd (omega (arith, first.there, ap (λ r. code_at r a) left.rest_is ∙ rest_is a short ∙ bare a h))
              | inr g ↦ g
            ]

        there : a ≡ n + (a - n)
        there = omega (arith, past)

    module _ (row : List ℕ) (a : ℕ) (new : NewRow o rows f row a) where
      within : a < n
      within = subst (λ (m : ℕ). a < m) sound.reduced.tall new.first.within

      long_row : length row ≡ n + l
      unfolding multiple
      long_row =
          ap length new.row_is ∙ length-map-range_with_len (λ i. o.product (o.inverse (code_at (rest_row o rows f) a)) (code_at (rest_row o rows f) i)) 0 (length (rest_row o rows f))
          ∙ rest_long

      pub insertable : Insertable o.size rows a row
      insertable = record {
        rows_frames = subst (λ (w : ℕ). Frames o.size w rows) (sym long_row) sound.frames;
        codes = new.codes;
        within = new.first.within;
        wide = subst (λ (w : ℕ). a < w) (sym long_row) (omega (arith, within));
      }

      row_is : (i : ℕ) → i < n + l → code_at row i ≡ scaled_at o n rows f a i
      unfolding multiple
      row_is i h =
          ap (λ r. code_at r i) new.row_is
          ∙ get_or-map-range_with_len (λ j. o.product (o.inverse (code_at (rest_row o rows f) a)) (code_at (rest_row o rows f) j)) 0 (length (rest_row o rows f)) i i 0
          (subst (λ (w : ℕ). i < w) (sym rest_long) h) (omega arith)
          ∙ ap₂ (λ x y. o.product (o.inverse x) y) (rest_is a (omega (arith, within))) (rest_is i h)

      -- the new table, row by row
      new_at : get_or (with_row o rows a row) a [] ≡ row
      unfolding with_row
      new_at = get_or-set_same (map (cleared o a row) rows) a row [] (subst (λ (m : ℕ). a < m) (sym (length-map rows (cleared o a row))) new.first.within)

      old_at : (m : ℕ) → m < n → (m ≡ a → ⊥) → get_or (with_row o rows a row) m [] ≡ cleared o a row (get_or rows m [])
      unfolding with_row
      old_at m h ne = get_or-set_other (map (cleared o a row) rows) a m row [] ne ∙ get_or-map (cleared o a row) rows m [] [] (subst (λ (x : ℕ). m < x) (sym sound.reduced.tall) h)

      pub long_with : length (with_row o rows a row) ≡ n
      unfolding with_row
      long_with = length-set (map (cleared o a row) rows) a row ∙ length-map rows (cleared o a row) ∙ sound.reduced.tall

      cleared_frame : (m : ℕ) → m < n → Frame o.size (n + l) (cleared o a row (get_or rows m []))
      cleared_frame m h =
          let hm : m < length rows = subst (λ (x : ℕ). m < x) (sym sound.reduced.tall) h in
          let old = get_or rows m [] in
          let lead : code_at old a < o.size = (sound.frames m hm).codes a (subst (λ (w : ℕ). a < w) (sym (sound.frames m hm).long) (omega (arith, within))) in
          record {
            long = length_less o laws old (code_at old a) row ∙ (sound.frames m hm).long;
            codes = λ i hi. let hold : i < length old = subst (λ (w : ℕ). i < w) (length_less o laws old (code_at old a) row) hi in
                subst (λ (x : ℕ). x < o.size) (sym (get_or_less o laws old (code_at old a) row i hold))
                (less_closed o laws old (code_at old a) row lead (sound.frames m hm).codes new.codes (long_row ∙ sym (sound.frames m hm).long) i hold);
          }

      inserted : Inserted o n l rows f a (with_row o rows a row)
      inserted = record {
        tall = long_with;
        rows_frames = λ m hm. elim (cases_eq m a) [
          | inl e ↦ subst (Frame o.size (n + l)) (sym (ap (λ j. get_or (with_row o rows a row) j []) e ∙ new_at)) (record { long = long_row; codes = new.codes })
          | inr ne ↦ let h : m < n = subst (λ (x : ℕ). m < x) long_with hm in subst (Frame o.size (n + l)) (sym (old_at m h ne)) (cleared_frame m h)
        ];
        new = λ i h. ap (λ r. code_at r i) new_at ∙ row_is i h;
        old = λ m h ne i hi.
            let hm : m < length rows = subst (λ (x : ℕ). m < x) (sym sound.reduced.tall) h in
            ap (λ r. code_at r i) (old_at m h ne)
            ∙ get_or_less o laws (get_or rows m []) (row_at rows m a) row i (subst (λ (w : ℕ). i < w) (sym (sound.frames m hm).long) hi)
            ∙ ap (λ x. o.difference (row_at rows m i) (o.product (row_at rows m a) x)) (row_is i hi);
      }

      some_left : 0 < rest_at o n rows f a
      some_left = subst (λ (x : ℕ). 0 < x) (rest_is a (omega (arith, within))) new.first.there

      none_before : (i : ℕ) → i < a → rest_at o n rows f i ≡ 0
      none_before i h = sym (rest_is i (omega (arith, within))) ∙ new.first.before i h

      -- the table is the reduced form of one frame more, and sound again; one packet becomes seen
      pub form_after : ReducedForm o n l (f ∷ rows) (with_row o rows a row)
      form_after = inserted_form o laws n l rows rows own f frame a within some_left none_before (with_row o rows a row) inserted

      pub shows_after : BecomesSeen o n rows f a
      shows_after = inserted_seen o laws n l rows rows own f frame a within some_left none_before (with_row o rows a row) inserted

      pub sound_after : Sound o.size n l (with_row o rows a row)
      sound_after = record { frames = form_after.rows_frames; reduced = form_after.reduced }

-- a row that is read from a sound table
pub record Read (n l m : ℕ) (rows : List (List ℕ)) (row : List ℕ) : Type 0 where
  pub is : row ≡ get_or rows m []
  pub long : length row ≡ n + l

pub read : {q n l : ℕ} (items : List (Vec ℕ Global)) → ∥ Sound q n l (lists items) ∥₁ → (m : ℕ) → m < n → {v : Vec ℕ Global} → v ≡ get_or items m v → (row : List ℕ) → row ≡ vec_items v → Read n l m (lists items) row
read {q} {n} {l} items sound m h {v} e row same =
    let s : Sound q n l (lists items) = sound_at refl sound in
    let here : m < length (lists items) = subst (λ (x : ℕ). m < x) (sym s.reduced.tall) h in
    let is : row ≡ get_or (lists items) m [] = read_row items m v row (subst (λ (x : ℕ). m < x) (length-map items vec_items) here) e same in
    record { is = is; long = ap length is ∙ (s.frames m here).long }

-- a place and the coefficient there: the lead's or 0, and neither of them
abbrev pub NoOther : ℕ → ℕ × ℕ → Type 0
NoOther m p = (p.0 ≡ m) ⊎ (p.1 ≡ 0)

abbrev pub Another : ℕ → ℕ × ℕ → Type 0
Another m p = (p.0 ≡ m → ⊥) × (p.1 ≡ 0 → ⊥)

abbrev pub coefficients : ℕ → List ℕ → List (ℕ × ℕ)
coefficients n row = enumerate_from 0 (take n row)

-- coefficient after coefficient, whether a row that is there has none but its lead
pub bare_cases : {n l m : ℕ} {rows : List (List ℕ)} {row : List ℕ} → Read n l m rows row → code_at row m ≡ 1 → (b : Bool)
    → MatchBool b (AllWithin (NoOther m) (coefficients n row) 0 (length (coefficients n row))) ((i : ℕ) × (i < length (coefficients n row)) × HoldsAt (Another m) (coefficients n row) i)
    → MatchBool b (Bare n rows m) (Bare n rows m → ⊥)
bare_cases {n} {l} {m} {rows} {row} r one b all = cases b all
  where
    long : length (coefficients n row) ≡ n
    long = length-enumerate_from 0 (take n row) ∙ length-take-le n row (omega (arith, r.long))

    at : (i : ℕ) → i < n → get_or (coefficients n row) i (0, 0) ≡ (i, row_at rows m i)
    at i h =
        let short : i < length (take n row) = omega (arith, length-take-le n row (omega (arith, r.long))) in
        get_or-enumerate_from 0 (take n row) i (0, 0) short
        ∙ ap₂ (λ x y. (x, y)) (zero-add i) (get_or-take n row i 0 h ∙ ap (λ x. code_at x i) r.is)

    cases : (b : Bool)
        → MatchBool b (AllWithin (NoOther m) (coefficients n row) 0 (length (coefficients n row))) ((i : ℕ) × (i < length (coefficients n row)) × HoldsAt (Another m) (coefficients n row) i)
        → MatchBool b (Bare n rows m) (Bare n rows m → ⊥)
    cases true all = record {
      lead = ap (λ x. code_at x m) (sym r.is) ∙ one;
      others = λ i h ne. elim (subst (NoOther m) (at i h) (all i (0, 0) (omega arith) (omega (arith, long)))) [ inl e ↦ absurd (ne e) | inr e ↦ e ];
    }
    cases false (i, h, another) =
        let short : i < n = omega (arith, h, long) in
        let found = subst (Another m) (at i short) (another (0, 0)) in
        λ bare. found.1 (bare.others i short found.0)

-- rows of zeros
zero_row : (w i : ℕ) → get_or (replicate {A = ℕ} w 0) i 0 ≡ 0
zero_row w i =
    elim (cases_lt i w) [
      | inl h ↦ get_or-replicate w i 0 0 h
      | inr g ↦ get_or_past (replicate w 0) i 0 (subst (λ (n : ℕ). n ≤ i) (sym (length-replicate w 0)) g)
    ]

pub zero_rows : (n w m i : ℕ) → row_at (replicate n (replicate w 0)) m i ≡ 0
zero_rows n w m i =
    elim (cases_lt m n) [
      | inl h ↦ ap (λ row. get_or row i 0) (get_or-replicate n m (replicate w 0) [] h) ∙ zero_row w i
      | inr g ↦ ap (λ row. get_or row i 0) (get_or_past (replicate n (replicate w 0)) m [] (subst (λ (x : ℕ). x ≤ m) (sym (length-replicate n (replicate w 0))) g))
    ]

pub sound_empty : (q n l : ℕ) → 0 < q → Sound q n l (replicate n (replicate (n + l) 0))
sound_empty q n l h = record {
  frames = λ m hm. subst (Frame q (n + l)) (sym (get_or-replicate n m (replicate (n + l) 0) [] (subst (λ (x : ℕ). m < x) (length-replicate n (replicate (n + l) 0)) hm)))
      (record { long = length-replicate (n + l) 0; codes = λ i _. subst (λ (x : ℕ). x < q) (sym (zero_row (n + l) i)) h });
  reduced = record {
    tall = length-replicate n (replicate (n + l) 0);
    lead = λ m hm. inr (zero_rows n (n + l) m);
    before = λ m i hm hi. zero_rows n (n + l) m i;
    column = λ j m hj hm e ne. zero_rows n (n + l) j m;
  };
}
