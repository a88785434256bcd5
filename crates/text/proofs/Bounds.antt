-- The numbers of a script are digits, and its lines are few. Assumes nothing.
use Rattle.std.proofs.Common.{◌≡◌, ℕ, zero, suc, ◌+◌, ◌-◌, ◌*◌, ◌<◌, ◌≤◌, true, cond, ◌&&◌, eqb, ltb, leb, List, [], ◌∷◌, length, get_or, Some, None, Ok, Err, vec_items, vec_len, Option, Result, Vec, sym, refl, ap, ◌∙◌, subst, arith}
use Rattle.std.specs.Char.{is_ascii_digit}
use Rattle.std.specs.declared.alloc.Global.{Global}
use Rattle.std.proofs.lemmas.List.{length-map}
use Rattle.std.proofs.lemmas.Bool.{and_parts, leb-true, ltb-true, ltb-false, or_parts, eqb-true, cond_both}
use Rattle.faults.proofs.Passed.{passed}
use Rattle.text.specs.declared.fault.LineFault.{LineFault}
use Rattle.text.specs.declared.fault.LineFault.TheVariants.{NoDigit, WrongCount, NoEnd}
use Rattle.text.specs.Cuts.{lines_of, fields_of}
use Rattle.text.specs.Lines.{are_digits, number_after, begins, field_answer, first_then, numbers_from, fits, counted, line_answer}
use Rattle.text.specs.Tables.{lists, number_at}
use Rattle.text.specs.Scripts.{lines_before, too_long, whole_lines}

-- a digit is a byte from 48 to 57
pub digit_range : (b : ℕ) → is_ascii_digit b ≡ true → (48 ≤ b) × (b ≤ 57)
digit_range b e = let p = and_parts (leb 48 b) (leb b 57) e in (leb-true 48 b p.0, leb-true b 57 p.1)

one_digit : (f : List ℕ) → 0 < length f → length f ≤ 1 → are_digits f ≡ true → (number_after 0 f ≤ 9) × (f ≡ (48 + number_after 0 f) ∷ [])
one_digit [] s h e = absurd (omega arith)
one_digit (b ∷ []) s h e = let r = digit_range b (and_parts (is_ascii_digit b) true e).0 in let same : b ≡ 48 + (0 * 10 + (b - 48)) = omega arith in (omega arith, ap (λ x. x ∷ []) same)
one_digit (b ∷ (c ∷ bs)) s h e = absurd (omega arith)

-- a digit that was read, and the byte that it was read from
pub digit_read : (k n : ℕ) (f : List ℕ) → field_answer 1 k f ≡ Ok n → (n ≤ 9) × (f ≡ (48 + n) ∷ [])
digit_read k n f h =
    let number : Result ℕ LineFault = Ok (number_after 0 f) in
    let p = passed (begins f) n (cond (leb (length f) 1 && are_digits f) number (Err (NoEnd k))) (NoDigit k) (sym h) in
    let q = passed (leb (length f) 1 && are_digits f) n number (NoEnd k) p.1 in
    let t = and_parts (leb (length f) 1) (are_digits f) q.0 in
    let some = ltb-true 0 (length f) (and_parts (ltb 0 (length f)) (is_ascii_digit (get_or f 0 0)) p.0).0 in
    let same : n ≡ number_after 0 f = let e = q.1 in cc in
    rw same (one_digit f some (leb-true (length f) 1 t.0) t.1)

-- numbers that were read: the first, and then the others
pub parts : (r : Result ℕ LineFault) (s : Result (List ℕ) LineFault) (ns : List ℕ) → first_then r s ≡ Ok ns
    → (n : ℕ) × (ms : List ℕ) × (r ≡ Ok n) × (s ≡ Ok ms) × (ns ≡ n ∷ ms)
parts (Ok n) (Ok ms) ns e = let same : ns ≡ n ∷ ms = cc in (n, ms, refl, refl, same)
parts (Ok n) (Err d) ns e = cc
parts (Err d) s ns e = cc

numbers_read : (k : ℕ) (fs : List (List ℕ)) (ns : List ℕ) → numbers_from 1 k fs ≡ Ok ns → (j : ℕ) → get_or ns j 0 ≤ 9
unfolding numbers_from
numbers_read k [] ns e j = let none : ns ≡ [] = cc in subst (λ l. get_or l j 0 ≤ 9) (sym none) (omega arith)
numbers_read k (f ∷ fs) ns e j =
    let p = parts (field_answer 1 k f) (numbers_from 1 (k + 1) fs) ns e in
    subst (λ l. get_or l j 0 ≤ 9) (sym p.4) (each p.0 p.1 (digit_read k p.0 f p.2).0 (numbers_read (k + 1) fs p.1 p.3) j)
  where
    each : (n : ℕ) (ms : List ℕ) → n ≤ 9 → ((i : ℕ) → get_or ms i 0 ≤ 9) → (i : ℕ) → get_or (n ∷ ms) i 0 ≤ 9
    each n ms a b zero = a
    each n ms a b (suc i) = b i

pub read_whole : (w : Option ℕ) (r : Result (List ℕ) LineFault) (ns : List ℕ) → counted w r ≡ Ok ns → r ≡ Ok ns
read_whole w (Ok ms) ns e = sym (passed (fits w (length ms)) ns (Ok ms) (WrongCount (length ms)) (sym e)).1
read_whole w (Err d) ns e = cc

lines_digits : (w : Option ℕ) (ls : List (List ℕ)) (i k : ℕ) → number_at (lines_before w ls) i k ≤ 9
unfolding lines_before
lines_digits w [] i k = omega arith
lines_digits w (l ∷ ls) i k = go (λ n. lines_digits (Some n) ls) (line_answer 1 w l) refl i
  where
    go : ((n i k : ℕ) → number_at (lines_before (Some n) ls) i k ≤ 9) → (r : Result (List ℕ) LineFault) → line_answer 1 w l ≡ r → (i : ℕ)
        → number_at (elim r [ Ok ns ↦ ns ∷ lines_before (Some (length ns)) ls | Err e ↦ [] ]) i k ≤ 9
    go rest (Ok ns) h zero = numbers_read 1 (fields_of l) ns (read_whole w (numbers_from 1 1 (fields_of l)) ns h) k
    go rest (Ok ns) h (suc i) = rest (length ns) i k
    go rest (Err e) h i = omega arith

lines_few : (w : Option ℕ) (ls : List (List ℕ)) → length (lines_before w ls) ≤ length ls
unfolding lines_before
lines_few w [] = omega arith
lines_few w (l ∷ ls) = go (λ n. lines_few (Some n) ls) (line_answer 1 w l)
  where
    go : ((n : ℕ) → length (lines_before (Some n) ls) ≤ length ls) → (r : Result (List ℕ) LineFault)
        → length {A = List ℕ} (elim r [ Ok ns ↦ ns ∷ lines_before (Some (length ns)) ls | Err e ↦ [] ]) ≤ suc (length ls)
    go rest (Ok ns) = let h = rest (length ns) in omega arith
    go rest (Err e) = omega arith

script_digits : (text : List ℕ) (i k : ℕ) → number_at (whole_lines text) i k ≤ 9
script_digits text i k = cond_both (too_long text) [] (lines_before None (lines_of text)) (λ ls. number_at ls i k ≤ 9) (λ _. omega arith) (λ _. lines_digits None (lines_of text) i k)

script_few : (text : List ℕ) → length (whole_lines text) ≤ 1024
script_few text =
    cond_both (too_long text) [] (lines_before None (lines_of text)) (λ ls. length ls ≤ 1024) (λ _. omega arith)
    (λ e. let few = ltb-false 1024 (length (lines_of text)) (or_parts (ltb 16384 (length text)) (ltb 1024 (length (lines_of text))) e).1 in let less = lines_few None (lines_of text) in omega arith)

-- what vectors that hold the whole lines of a text are
module _ (text : List ℕ) (lines : Vec (Vec ℕ Global) Global) (held : lists (vec_items lines) ≡ whole_lines text) where
  pub held_few : vec_len lines ≤ 1024
  held_few = let e = lines.ok.0 ∙ sym (length-map (vec_items lines) vec_items) ∙ ap length held in let few = script_few text in omega arith

  pub held_digits : (i k : ℕ) → number_at (lists (vec_items lines)) i k ≤ 9
  held_digits i k = subst (λ (ls : List (List ℕ)). number_at ls i k ≤ 9) (sym held) (script_digits text i k)

-- a line of a known width has so many numbers
pub wide : (w : ℕ) (r : Result (List ℕ) LineFault) (ns : List ℕ) → counted (Some w) r ≡ Ok ns → length ns ≡ w
wide w (Ok ms) ns e =
    let p = passed (eqb (length ms) w) ns (Ok ms) (WrongCount (length ms)) (sym e) in
    let same : ns ≡ ms = let q = p.1 in cc in
    ap length same ∙ eqb-true (length ms) w p.0
wide w (Err d) ns e = cc
