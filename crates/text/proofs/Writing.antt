-- What was written out is read back. Assumes nothing.
use Rattle.std.proofs.Common.{◌≡◌, ℕ, zero, suc, ◌+◌, ◌-◌, ◌*◌, ◌<◌, ◌≤◌, true, false, ◌&&◌, eqb, ltb, leb, List, [], ◌∷◌, ◌++◌, map, length, get_or, Some, None, Ok, Err, Option, Result, sym, refl, ap, ◌∙◌, subst, ap₂, arith}
use Rattle.std.specs.Char.{is_ascii_digit}
use Rattle.std.specs.List.{All, onto_first}
use Rattle.std.proofs.lemmas.List.Splits.{slice_split_none, slice_split_at}
use Rattle.std.proofs.lemmas.List.{length-map, length-append, append-nil}
use Rattle.std.proofs.lemmas.Bool.{cond-true, cond-false, and_from, and_left, and_right, le-leb, le-ltb, lt-ltb, ne_eqb, eq-eqb, or_from}
use Rattle.text.specs.declared.fault.LineFault.{LineFault}
use Rattle.text.specs.declared.fault.LineFault.TheVariants.{NoDigit, NoEnd, WrongCount}
use Rattle.text.specs.declared.fault.ScriptFault.{ScriptFault}
use Rattle.text.specs.declared.fault.ScriptFault.TheVariants.{Line}
use Rattle.text.specs.Cuts.{lines_of, fields_of, first_of}
use Rattle.text.specs.Lines.{are_digits, number_after, begins, field_answer, first_then, numbers_from, fits, counted, line_answer}
use Rattle.text.specs.Scripts.{lines_before, first_fault, too_long, unless, script_answer}
use Rattle.text.specs.Written.{digits_text, line_text, script_line, script_text, open_script_text, value_after, Digits, ScriptsReadBack, SettingsReadBack}
use Rattle.text.proofs.Cutting.{goes_on}

-- all of some digits are at most 9
abbrev Each : List ℕ → Type 0
Each ds = (k : ℕ) → get_or ds k 0 ≤ 9

is_digit : (d : ℕ) → d ≤ 9 → is_ascii_digit (48 + d) ≡ true
is_digit d h = and_from (leb 48 (48 + d)) (leb (48 + d) 57) (le-leb 48 (48 + d) (omega arith)) (le-leb (48 + d) 57 (omega arith))

text_digits : (ds : List ℕ) → Each ds → are_digits (digits_text ds) ≡ true
text_digits [] e = refl
text_digits (d ∷ ds) e = and_from (is_ascii_digit (48 + d)) (are_digits (digits_text ds)) (is_digit d (e 0)) (text_digits ds (λ k. e (suc k)))

text_value : (a : ℕ) (ds : List ℕ) → number_after a (digits_text ds) ≡ value_after a ds
text_value a [] = refl
text_value a (d ∷ ds) = let same : a * 10 + (48 + d - 48) ≡ a * 10 + d = omega arith in ap (λ n. number_after n (digits_text ds)) same ∙ text_value (a * 10 + d) ds

text_begins : (ds : List ℕ) → 1 ≤ length ds → Each ds → begins (digits_text ds) ≡ true
text_begins [] s e = absurd (omega arith)
text_begins (d ∷ ds) s e = and_from (ltb 0 (suc (length (digits_text ds)))) (is_ascii_digit (48 + d)) (lt-ltb 0 (suc (length (digits_text ds))) (omega arith)) (is_digit d (e 0))

-- a field that was written out
field_back : (m k : ℕ) (ds : List ℕ) → Digits m ds → field_answer m k (digits_text ds) ≡ Ok (value_after 0 ds)
field_back m k ds w =
    let long = length-map ds (λ d. 48 + d) in
    cond-true (begins (digits_text ds)) _ (Err (NoDigit k)) (text_begins ds w.some w.each)
    ∙ cond-true (leb (length (digits_text ds)) m && are_digits (digits_text ds)) _ (Err (NoEnd k)) (and_from (leb (length (digits_text ds)) m) (are_digits (digits_text ds)) (le-leb (length (digits_text ds)) m (omega (arith, w.few, long))) (text_digits ds w.each))
    ∙ ap Ok (text_value 0 ds)

-- digits have no comma among them
no_comma : (ds : List ℕ) → Each ds → All (λ b. eqb b 44 ≡ false) (digits_text ds)
no_comma [] e k x h = absurd (omega arith)
no_comma (d ∷ ds) e zero x h = ne_eqb (48 + d) 44 (λ y. let few = e 0 in omega arith)
no_comma (d ∷ ds) e (suc k) x h = no_comma ds (λ j. e (suc j)) k x (omega arith)

-- every field of a line is one to m digits
abbrev Fields : ℕ → List (List ℕ) → Type 0
Fields m fs = (i : ℕ) → i < length fs → Digits m (get_or fs i [])

numbers_back : (m k : ℕ) (fs : List (List ℕ)) → 1 ≤ length fs → Fields m fs → numbers_from m k (fields_of (line_text fs)) ≡ Ok (map (value_after 0) fs)
unfolding numbers_from
numbers_back m k [] s w = absurd (omega arith)
numbers_back m k (f ∷ []) s w =
    let here = w 0 (omega arith) in
    ap (numbers_from m k) (slice_split_none (λ b. eqb b 44) (digits_text f) (no_comma f here.each)) ∙ ap (λ r. first_then r (Ok [])) (field_back m k f here)
numbers_back m k (f ∷ (g ∷ fs)) s w =
    let here = w 0 (omega arith) in
    ap (numbers_from m k) (slice_split_at (λ b. eqb b 44) (digits_text f) 44 (line_text (g ∷ fs)) (no_comma f here.each) refl)
    ∙ ap₂ first_then (field_back m k f here) (numbers_back m (k + 1) (g ∷ fs) (omega arith) (λ i h. w (suc i) (omega arith)))

line_back : (m : ℕ) (w : Option ℕ) (fs : List (List ℕ)) → 1 ≤ length fs → Fields m fs → fits w (length fs) ≡ true → line_answer m w (line_text fs) ≡ Ok (map (value_after 0) fs)
line_back m w fs s each ok =
    ap (counted w) (numbers_back m 1 fs s each)
    ∙ cond-true (fits w (length (map (value_after 0) fs))) (Ok (map (value_after 0) fs)) (Err (WrongCount (length (map (value_after 0) fs)))) (ap (fits w) (length-map fs (value_after 0)) ∙ ok)

-- no byte of a text is CR
abbrev Plain : List ℕ → Type 0
Plain bs = (i : ℕ) → get_or bs i 0 ≡ 13 → ⊥

digits_plain : (ds : List ℕ) → Each ds → (bs : List ℕ) → Plain bs → Plain (digits_text ds ++ bs)
digits_plain [] e bs p i = p i
digits_plain (d ∷ ds) e bs p zero = λ x. let few = e 0 in omega arith
digits_plain (d ∷ ds) e bs p (suc i) = digits_plain ds (λ k. e (suc k)) bs p i

none_plain : Plain []
none_plain i x = omega arith

line_plain : (m : ℕ) (fs : List (List ℕ)) → Fields m fs → Plain (line_text fs)
line_plain m [] w = none_plain
line_plain m (f ∷ []) w = subst Plain (append-nil (digits_text f)) (digits_plain f (w 0 (omega arith)).each [] none_plain)
line_plain m (f ∷ (g ∷ fs)) w = digits_plain f (w 0 (omega arith)).each (44 ∷ line_text (g ∷ fs)) (after (line_plain m (g ∷ fs) (λ i h. w (suc i) (omega arith))))
  where
    after : Plain (line_text (g ∷ fs)) → Plain (44 ∷ line_text (g ∷ fs))
    after p zero x = omega arith
    after p (suc i) x = p i x

-- a byte that is no CR ends no line
no_cr : (b : ℕ) (bs : List ℕ) → (b ≡ 13 → ⊥) → lines_of (b ∷ bs) ≡ onto_first b (lines_of bs)
no_cr b bs ne = goes_on b bs (and_right (ltb 0 (length bs)) (eqb b 13 && eqb (get_or bs 0 0) 10) (and_left (eqb b 13) (eqb (get_or bs 0 0) 10) (ne_eqb b 13 ne)))

end_after : (p : List ℕ) → Plain p → (rest : List ℕ) → lines_of (p ++ (13 ∷ (10 ∷ rest))) ≡ p ∷ lines_of rest
unfolding lines_of
end_after [] h rest = refl
end_after (b ∷ p) h rest = no_cr b (p ++ (13 ∷ (10 ∷ rest))) (h 0) ∙ ap (onto_first b) (end_after p (λ i. h (suc i)) rest)

no_end : (p : List ℕ) → 1 ≤ length p → Plain p → lines_of p ≡ p ∷ []
unfolding lines_of
no_end [] s h = absurd (omega arith)
no_end (b ∷ []) s h = refl
no_end (b ∷ (c ∷ p)) s h = no_cr b (c ∷ p) (h 0) ∙ ap (onto_first b) (no_end (c ∷ p) (omega arith) (λ i. h (suc i)))

line_some : (m : ℕ) (fs : List (List ℕ)) → 1 ≤ length fs → Fields m fs → 1 ≤ length (line_text fs)
line_some m [] s w = absurd (omega arith)
line_some m (f ∷ []) s w = let e = length-map f (λ d. 48 + d) in omega (arith, (w 0 (omega arith)).some, e)
line_some m (f ∷ (g ∷ fs)) s w = let e = length-append (digits_text f) (44 ∷ line_text (g ∷ fs)) in omega arith

-- a line of a script
abbrev singles : List ℕ → List (List ℕ)
singles ds = map (λ d. d ∷ []) ds

singles_fields : (l : List ℕ) → Each l → Fields 1 (singles l)
singles_fields [] e i h = absurd (omega arith)
singles_fields (d ∷ l) e zero h = record { some = omega arith; few = omega arith; each = one }
  where
    one : Each (d ∷ [])
    one zero = e 0
    one (suc k) = omega arith
singles_fields (d ∷ l) e (suc i) h = singles_fields l (λ k. e (suc k)) i (omega arith)

singles_value : (l : List ℕ) → map (value_after 0) (singles l) ≡ l
singles_value [] = refl
singles_value (d ∷ l) = let same : 0 * 10 + d ≡ d = omega arith in ap₂ (λ (x : ℕ) (xs : List ℕ). x ∷ xs) same (singles_value l)

script_line_back : (w : Option ℕ) (l : List ℕ) → 1 ≤ length l → Each l → fits w (length l) ≡ true → line_answer 1 w (script_line l) ≡ Ok l
script_line_back w l s e ok =
    let long = length-map l (λ d. d ∷ []) in
    line_back 1 w (singles l) (omega (arith, long)) (singles_fields l e) (ap (fits w) long ∙ ok) ∙ ap Ok (singles_value l)

-- lines of one width, all of digits
record Even (w : ℕ) (lines : List (List ℕ)) : Type 0 where
  pub some : 1 ≤ w
  pub wide : (i : ℕ) → i < length lines → length (get_or lines i []) ≡ w
  pub digits : (i : ℕ) → Each (get_or lines i [])

others : (w : ℕ) (l : List ℕ) (ls : List (List ℕ)) → Even w (l ∷ ls) → Even w ls
others w l ls e = record { some = e.some; wide = λ i h. e.wide (suc i) (omega arith); digits = λ i. e.digits (suc i) }

first_plain : (w : ℕ) (l : List ℕ) (ls : List (List ℕ)) → Even w (l ∷ ls) → Plain (script_line l)
first_plain w l ls e = line_plain 1 (singles l) (singles_fields l (e.digits 0))

closed_lines : (w : ℕ) (ls : List (List ℕ)) → Even w ls → lines_of (script_text ls) ≡ map script_line ls
unfolding script_text lines_of
closed_lines w [] e = refl
closed_lines w (l ∷ ls) e = end_after (script_line l) (first_plain w l ls e) (script_text ls) ∙ ap (λ ls. script_line l ∷ ls) (closed_lines w ls (others w l ls e))

open_lines : (w : ℕ) (ls : List (List ℕ)) → Even w ls → lines_of (open_script_text ls) ≡ map script_line ls
unfolding open_script_text lines_of
open_lines w [] e = refl
open_lines w (l ∷ []) e =
    let long = length-map l (λ d. d ∷ []) in
    let here = e.wide 0 (omega arith) in
    no_end (script_line l) (line_some 1 (singles l) (omega (arith, long, here, e.some)) (singles_fields l (e.digits 0))) (first_plain w l [] e)
open_lines w (l ∷ (m ∷ ls)) e =
    end_after (script_line l) (first_plain w l (m ∷ ls) e) (open_script_text (m ∷ ls)) ∙ ap (λ ls. script_line l ∷ ls) (open_lines w (m ∷ ls) (others w l (m ∷ ls) e))

open_shorter : (ls : List (List ℕ)) → length (open_script_text ls) ≤ length (script_text ls)
unfolding script_text open_script_text
open_shorter [] = omega arith
open_shorter (l ∷ []) = let e = length-append (script_line l) (13 ∷ (10 ∷ [])) in omega arith
open_shorter (l ∷ (m ∷ ls)) =
    let a = length-append (script_line l) (13 ∷ (10 ∷ open_script_text (m ∷ ls))) in
    let b = length-append (script_line l) (13 ∷ (10 ∷ script_text (m ∷ ls))) in
    let h = open_shorter (m ∷ ls) in
    omega arith

-- written lines, read one after another
lines_back : (o : Option ℕ) (w n : ℕ) (ls : List (List ℕ)) → fits o w ≡ true → Even w ls → (lines_before o (map script_line ls) ≡ ls) × (first_fault o n (map script_line ls) ≡ None)
unfolding lines_before first_fault
lines_back o w n [] ok e = (refl, refl)
lines_back o w n (l ∷ ls) ok e =
    let here = e.wide 0 (omega arith) in
    let read = script_line_back o l (omega (arith, here, e.some)) (e.digits 0) (ap (fits o) here ∙ ok) in
    let rest = lines_back (Some (length l)) w (n + 1) ls (eq-eqb w (length l) (sym here)) (others w l ls e) in
    let step : Result (List ℕ) LineFault → List (List ℕ) = λ r. elim r [ Ok ms ↦ ms ∷ lines_before (Some (length ms)) (map script_line ls) | Err e ↦ [] ] in
    let fault : Result (List ℕ) LineFault → Option ScriptFault = λ r. elim r [ Ok ms ↦ first_fault (Some (length ms)) (n + 1) (map script_line ls) | Err e ↦ Some (Line n e) ] in
    (ap step read ∙ ap (λ ms. l ∷ ms) rest.0, ap fault read ∙ rest.1)

text_back : (w : ℕ) (ls : List (List ℕ)) (text : List ℕ) → w ≤ 8 → Even w ls → length ls ≤ 1024 → length text ≤ 16384 → lines_of text ≡ map script_line ls → script_answer text ≡ Ok ls
text_back w ls text few e many short cut =
    let read = lines_back None w 1 ls (le-leb w 8 few) e in
    let count = ap length cut ∙ length-map ls script_line in
    let fine : too_long text ≡ false = or_from (ltb 16384 (length text)) (ltb 1024 (length (lines_of text))) (le-ltb 16384 (length text) short) (le-ltb 1024 (length (lines_of text)) (omega (arith, count))) in
    ap₂ unless
    (cond-false (too_long text) _ (first_fault None 1 (lines_of text)) fine ∙ ap (first_fault None 1) cut ∙ read.1)
    (cond-false (too_long text) [] (lines_before None (lines_of text)) fine ∙ ap (lines_before None) cut ∙ read.0)

pub scripts_read_back : ScriptsReadBack
scripts_read_back w ls h =
    let e : Even w ls = record { some = h.some; wide = h.wide; digits = h.digits } in
    record {
      closed = text_back w ls (script_text ls) h.few_fields e h.few_lines h.short (closed_lines w ls e);
      open_ended = text_back w ls (open_script_text ls) h.few_fields e h.few_lines (omega (arith, h.short, open_shorter ls)) (open_lines w ls e);
    }

three_fields : (m : ℕ) (a b c : List ℕ) → Digits m a → Digits m b → Digits m c → Fields m (a ∷ (b ∷ (c ∷ [])))
three_fields m a b c ha hb hc zero h = ha
three_fields m a b c ha hb hc (suc zero) h = hb
three_fields m a b c ha hb hc (suc (suc zero)) h = hc
three_fields m a b c ha hb hc (suc (suc (suc i))) h = absurd (omega arith)

pub settings_read_back : SettingsReadBack
settings_read_back a b c more ha hb hc =
    let three = a ∷ (b ∷ (c ∷ [])) in
    let each = three_fields 3 a b c ha hb hc in
    record {
      alone = ap (λ ls. line_answer 3 (Some 3) (first_of ls)) (no_end (line_text three) (line_some 3 three (omega arith) each) (line_plain 3 three each)) ∙ line_back 3 (Some 3) three (omega arith) each refl;
      before_more = ap (λ ls. line_answer 3 (Some 3) (first_of ls)) (end_after (line_text three) (line_plain 3 three each) more) ∙ line_back 3 (Some 3) three (omega arith) each refl;
    }
