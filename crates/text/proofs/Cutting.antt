-- A text is cut at the first CR LF in it. Assumes nothing.
use Rattle.std.proofs.Common.{◌≡◌, ℕ, zero, suc, ◌+◌, ◌<◌, ◌≤◌, Bool, true, false, ◌&&◌, eqb, ltb, Some, None, Option, Bor, List, [], ◌∷◌, length, get_or, take, drop, sym, refl, ap, ◌∙◌, subst, ap₂, arith}
use Rattle.std.specs.declared.slice.Windows.{Windows}
use Rattle.std.specs.List.{AllWithin, HoldsAt, onto_first}
use Rattle.std.specs.Option.{MatchOption}
use Rattle.std.specs.Slice.Iter.{windows_rest, windows_size, windows_steps}
use Rattle.std.specs.Str.{bytes_eq}
use Rattle.std.proofs.lemmas.Bool.{and_right, cond-true, cond-false, cond_both, lt-ltb}
use Rattle.std.proofs.lemmas.Iterator.{YieldsList}
use Rattle.std.proofs.lemmas.Iterator.Splits.{YieldsList-from_shown_while}
use Rattle.text.specs.Cuts.{lines_of}

-- each two neighbours in a text
abbrev pub pairs : List ℕ → List (List ℕ)
pairs [] = []
pairs (b ∷ []) = []
pairs (b ∷ (c ∷ bs)) = (b ∷ (c ∷ [])) ∷ pairs (c ∷ bs)

pair_none : (t : List ℕ) → length t < 2 → length (pairs t) ≡ 0
pair_none [] h = refl
pair_none (b ∷ []) h = refl
pair_none (b ∷ (c ∷ bs)) h = absurd (omega arith)

pair_first : (t : List ℕ) → 2 ≤ length t → pairs t ≡ take 2 t ∷ pairs (drop 1 t)
pair_first [] h = absurd (omega arith)
pair_first (b ∷ []) h = absurd (omega arith)
pair_first (b ∷ (c ∷ bs)) h = refl

-- `windows(2)` gives them
pub pairs_yielded : (s : Windows ℕ) (t : List ℕ) → windows_rest s ≡ t → windows_size s ≡ 2 → YieldsList windows_steps (λ x. x.now) s (pairs t)
pairs_yielded s t e two =
    subst (λ l. YieldsList windows_steps (λ x. x.now) s (pairs l)) e (YieldsList-from_shown_while windows_steps (λ x. x.now) (λ u. pairs (windows_rest u)) (λ u. windows_size u ≡ 2) ends goes_on s two)
  where
    ends : (s t : Windows ℕ) → windows_size s ≡ 2 → windows_steps s None t → length (pairs (windows_rest s)) ≡ 0
    ends s t two step = pair_none (windows_rest s) (omega (arith, step.1.0))

    goes_on : (s : Windows ℕ) (x : Bor (List ℕ)) (t : Windows ℕ) → windows_size s ≡ 2 → windows_steps s (Some x) t → (windows_size t ≡ 2) × (pairs (windows_rest s) ≡ x.now ∷ pairs (windows_rest t))
    goes_on s x t two step = (step.0 ∙ two, pair_first (windows_rest s) (omega (arith, step.1.0)) ∙ ap₂ (λ (p l : List ℕ). p ∷ pairs l) (sym (step.1.1 ∙ ap (λ n. take n (windows_rest s)) two)) (sym step.1.2))

-- CR LF
abbrev pub is_end : List ℕ → Bool
is_end p = bytes_eq p (13 ∷ (10 ∷ []))

pair_is : (b c : ℕ) → is_end (b ∷ (c ∷ [])) ≡ (eqb b 13 && eqb c 10)
pair_is b c = ap (λ x. eqb b 13 && x) (and_true (eqb c 10))
  where
    and_true : (x : Bool) → (x && true) ≡ x
    and_true true = refl
    and_true false = refl

-- a byte with which no CR LF begins ends no line
pub goes_on : (b : ℕ) (bs : List ℕ) → (ltb 0 (length bs) && (eqb b 13 && eqb (get_or bs 0 0) 10)) ≡ false → lines_of (b ∷ bs) ≡ onto_first b (lines_of bs)
unfolding lines_of
goes_on b [] e = refl
goes_on b (c ∷ bs) e = cond-false (eqb b 13 && eqb c 10) ([] ∷ lines_of bs) (onto_first b (lines_of (c ∷ bs)))
    (sym (ap (λ x. x && (eqb b 13 && eqb c 10)) (lt-ltb 0 (length (c ∷ bs)) (omega arith))) ∙ e)

-- the first pair that is CR LF ends the first line
line_ended : (t : List ℕ) (i : ℕ) → i < length (pairs t) → is_end (get_or (pairs t) i []) ≡ true → ((k : ℕ) → k < i → is_end (get_or (pairs t) k []) ≡ false)
    → lines_of t ≡ take i t ∷ lines_of (drop (suc (suc i)) t)
unfolding lines_of
line_ended [] i h here before = absurd (omega arith)
line_ended (b ∷ []) i h here before = absurd (omega arith)
line_ended (b ∷ (c ∷ bs)) zero h here before = cond-true (eqb b 13 && eqb c 10) ([] ∷ lines_of bs) (onto_first b (lines_of (c ∷ bs))) (sym (pair_is b c) ∙ here)
line_ended (b ∷ (c ∷ bs)) (suc i) h here before =
    goes_on b (c ∷ bs) (and_right (ltb 0 (length (c ∷ bs))) (eqb b 13 && eqb c 10) (sym (pair_is b c) ∙ before 0 (omega arith)))
    ∙ ap (onto_first b) (line_ended (c ∷ bs) i (omega arith) here (λ k l. before (suc k) (omega arith)))

-- with no such pair the text is one line
line_alone : (t : List ℕ) → 0 < length t → ((k : ℕ) → k < length (pairs t) → is_end (get_or (pairs t) k []) ≡ false) → lines_of t ≡ t ∷ []
unfolding lines_of
line_alone [] h before = absurd (omega arith)
line_alone (b ∷ []) h before = refl
line_alone (b ∷ (c ∷ bs)) h before =
    goes_on b (c ∷ bs) (and_right (ltb 0 (length (c ∷ bs))) (eqb b 13 && eqb c 10) (sym (pair_is b c) ∙ before 0 (omega arith)))
    ∙ ap (onto_first b) (line_alone (c ∷ bs) (omega arith) (λ k l. before (suc k) (omega arith)))

-- what `position` gives cuts off the first line
pub cut_at : (t : List ℕ) → 0 < length t → (r : Option ℕ)
    → MatchOption r (AllWithin (λ p. is_end p ≡ false) (pairs t) 0 (length (pairs t))) (λ i. (i < length (pairs t)) × HoldsAt (λ p. is_end p ≡ true) (pairs t) i × AllWithin (λ p. is_end p ≡ false) (pairs t) 0 i)
    → MatchOption r (lines_of t ≡ t ∷ []) (λ i. lines_of t ≡ take i t ∷ lines_of (drop (i + 2) t))
cut_at t h None none = line_alone t h (λ k l. none k [] (omega arith) l)
cut_at t h (Some i) first = let two : i + 2 ≡ suc (suc i) = omega arith in rw two (line_ended t i first.0 (first.1 []) (λ k l. first.2 k [] (omega arith) l))

-- a byte more makes at most one line more, so there are no more lines than bytes
first_line : (b : ℕ) (ls : List (List ℕ)) → length (onto_first b ls) ≤ length ls + 1
first_line b [] = omega arith
first_line b (l ∷ ls) = omega arith

pub few_lines : (t : List ℕ) → length (lines_of t) ≤ length t
unfolding lines_of
few_lines [] = omega arith
few_lines (b ∷ []) = omega arith
few_lines (b ∷ (c ∷ bs)) =
    let some = few_lines bs in
    let others = few_lines (c ∷ bs) in
    let first = first_line b (lines_of (c ∷ bs)) in
    cond_both (eqb b 13 && eqb c 10) ([] ∷ lines_of bs) (onto_first b (lines_of (c ∷ bs))) (λ (ls : List (List ℕ)). length ls ≤ length (b ∷ (c ∷ bs))) (λ _. omega arith) (λ _. omega arith)
