-- What is left of a row of codes when a multiple of another is taken away. Assumes nothing.
use Rattle.std.proofs.Common.{◌≡◌, ℕ, ◌<◌, cond, ◌&&◌, eqb, ltb, List, length, get_or, Ok, Err, sym, ◌∙◌, subst, arith}
use Rattle.std.proofs.lemmas.List.FromFn.{fill_by_all, get_or-map-range_with_len, length-map-range_with_len}
use Rattle.std.proofs.lemmas.Bool.{eq-eqb, lt-ltb, and_from, cond-true}
use Rattle.field.specs.Fields.{Ops, Lawful}
use Rattle.field.specs.declared.fault.FieldFault.TheVariants.{CodeTooLarge}
use Rattle.elimination.specs.declared.fault.RowsFault.{RowsFault}
use Rattle.elimination.specs.declared.fault.RowsFault.TheVariants.{WrongLength, Field}
use Rattle.algebra.specs.Frames.{Codes}
use Rattle.elimination.specs.Rows.{are_codes, Subtractable, less_at, less_multiple, subtract_answer}
use Rattle.elimination.proofs.Below.{test_from_codes}

-- what can be subtracted is accepted
pub fit_accepted : (q : ℕ) (t : List ℕ) (f : ℕ) (s : List ℕ) → Subtractable q t f s → subtract_answer q t f s ≡ Ok (tt {0})
fit_accepted q t f s fit =
    cond-true (eqb (length s) (length t)) (cond (are_codes q t && (are_codes q s && ltb f q)) (Ok tt) (Err (Field CodeTooLarge))) (Err WrongLength)
    (eq-eqb (length s) (length t) fit.long)
    ∙ cond-true (are_codes q t && (are_codes q s && ltb f q)) (Ok tt) (Err (Field CodeTooLarge))
    (and_from (are_codes q t) (are_codes q s && ltb f q) (test_from_codes q t fit.target_codes)
    (and_from (are_codes q s) (ltb f q) (test_from_codes q s fit.source_codes) (lt-ltb f q fit.factor_code)))

pub never_refused : (q : ℕ) (t : List ℕ) (f : ℕ) (s : List ℕ) (e : RowsFault) → Subtractable q t f s → Err e ≡ subtract_answer q t f s → ⊥
never_refused q t f s e fit no_way =
    let ok = fit_accepted q t f s fit in cc

module _ (o : Ops) (laws : Lawful o) (t : List ℕ) (f : ℕ) (s : List ℕ) where
  -- at each place it is a code
  pub less_closed : f < o.size → Codes o.size t → Codes o.size s → length s ≡ length t → (i : ℕ) → i < length t → less_at o t f s i < o.size
  less_closed hf ht hs long i h =
      laws.difference_closed _ _ (ht i h) (laws.product_closed _ _ hf (hs i (subst (λ (n : ℕ). i < n) (sym long) h)))

  -- a row that has the right code at every place is that row
  pub all_less : (row : List ℕ) → length row ≡ length t → ((i : ℕ) → i < length t → get_or row i 0 ≡ less_at o t f s i) → row ≡ less_multiple o t f s
  unfolding less_multiple
  all_less row long at = fill_by_all (less_at o t f s) row (length t) 0 long at

  pub get_or_less : (i : ℕ) → i < length t → get_or (less_multiple o t f s) i 0 ≡ less_at o t f s i
  unfolding less_multiple
  get_or_less i h = get_or-map-range_with_len (less_at o t f s) 0 (length t) i i 0 h (omega arith)

  pub length_less : length (less_multiple o t f s) ≡ length t
  unfolding less_multiple
  length_less = length-map-range_with_len (less_at o t f s) 0 (length t)
