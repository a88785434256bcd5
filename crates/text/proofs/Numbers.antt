-- Numbers read so far, and the fields that are left of a line. Assumes nothing.
use Rattle.std.proofs.Common.{◌≡◌, ℕ, ◌+◌, List, [], ◌∷◌, ◌++◌, length, drop, Some, None, Ok, Err, Option, Result, sym, refl, ap, ◌∙◌, append_assoc, append-nil, arith}
use Rattle.std.specs.Iterator.{Yields}
use Rattle.std.proofs.lemmas.Iterator.{YieldsList}
use Rattle.std.proofs.lemmas.Iterator.Consumers.{YieldsList-turn, YieldsList-end}
use Rattle.std.proofs.lemmas.List.{drop_more, drop_all}
use Rattle.text.specs.declared.fault.LineFault.{LineFault}
use Rattle.text.specs.Lines.{field_answer, in_front, first_then, numbers_from}

-- a `for` that has taken the items xs: what is left of them all
module _ {S A B : Type 0} {steps : S → Option A → S → Type 0} {v : A → B} {s : S} {all : List B} (chain : YieldsList steps v s all) (xs : List A) (t : S) (y : Yields steps s xs t) (r : Option A) (u : S) where
  pub left_more : (x : A) → r ≡ Some x → steps t r u → drop (length xs) all ≡ v x ∷ drop (length xs + 1) all
  left_more x is step =
      let here = YieldsList-turn chain xs t y r u x is step in
      drop_more all (length xs) (v x) here.0 ∙ ap (λ z. z ∷ drop (length xs + 1) all) (sym here.1)

  pub left_none : r ≡ None → steps t r u → drop (length xs) all ≡ []
  left_none is step = drop_all (length xs) all (omega (arith, (YieldsList-end chain xs t y r u is step).1))

-- numbers in front of what the fields that are left give
abbrev pub after : List ℕ → Result (List ℕ) LineFault → Result (List ℕ) LineFault
after ns (Ok ms) = Ok (ns ++ ms)
after ns (Err e) = Err e

after_push : (ns : List ℕ) (n : ℕ) (r : Result (List ℕ) LineFault) → after ns (in_front n r) ≡ after (ns ++ (n ∷ [])) r
after_push ns n (Ok ms) = ap Ok (sym (append_assoc ns (n ∷ []) ms))
after_push ns n (Err e) = refl

-- of these fields, some were read as the numbers ns, and the others, counted from k on, are left
pub record Sofar (m : ℕ) (fields : List (List ℕ)) (ns : List ℕ) (k : ℕ) (left : List (List ℕ)) : Type 0 where
  pub gives : numbers_from m 1 fields ≡ after ns (numbers_from m k left)

pub none_read : (m : ℕ) (fields : List (List ℕ)) → Sofar m fields [] 1 fields
none_read m fields = record { gives = after_none (numbers_from m 1 fields) }
  where
    after_none : (r : Result (List ℕ) LineFault) → r ≡ after [] r
    after_none (Ok ms) = refl
    after_none (Err e) = refl

module _ {m : ℕ} {fields : List (List ℕ)} {ns : List ℕ} {k : ℕ} where
  pub all_read : {left : List (List ℕ)} → left ≡ [] → Sofar m fields ns k left → numbers_from m 1 fields ≡ Ok ns
  unfolding numbers_from
  all_read none s = s.gives ∙ ap (λ fs. after ns (numbers_from m k fs)) none ∙ ap Ok (append-nil ns)

  module _ {f : List ℕ} {left : List (List ℕ)} (s : Sofar m fields ns k (f ∷ left)) where
    pub field_refused : {e : LineFault} → field_answer m k f ≡ Err e → numbers_from m 1 fields ≡ Err e
    unfolding numbers_from
    field_refused h = s.gives ∙ ap (λ r. after ns (first_then r (numbers_from m (k + 1) left))) h

    pub field_read : {n : ℕ} → field_answer m k f ≡ Ok n → Sofar m fields (ns ++ (n ∷ [])) (k + 1) left
    unfolding numbers_from
    field_read {n = n} h = record { gives = s.gives ∙ ap (λ r. after ns (first_then r (numbers_from m (k + 1) left))) h ∙ after_push ns n (numbers_from m (k + 1) left) }
