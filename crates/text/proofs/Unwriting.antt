-- Nothing else is read as lines than those lines written out. Assumes nothing.
use Rattle.std.proofs.Common.{◌≡◌, ℕ, ◌+◌, ◌<◌, Bool, true, false, cond, ◌&&◌, eqb, ◌⊎◌, List, [], ◌∷◌, ◌++◌, map, length, Some, None, Ok, Err, Option, Result, sym, refl, ap, ◌∙◌, subst, ap₂, inl, inr, ⊎_elim, arith}
use Rattle.std.specs.List.{onto_first, join_with_byte}
use Rattle.std.proofs.lemmas.List.Splits.{join_with_byte-slice_split}
use Rattle.std.proofs.lemmas.Bool.{cases_Bool, and_parts, cond-true, cond-false, cond_both, eqb-true}
use Rattle.text.specs.declared.fault.LineFault.{LineFault}
use Rattle.text.specs.declared.fault.ScriptFault.{ScriptFault}
use Rattle.text.specs.declared.fault.ScriptFault.TheVariants.{Line, TooLong}
use Rattle.text.specs.Cuts.{lines_of, fields_of}
use Rattle.text.specs.Lines.{field_answer, numbers_from, line_answer}
use Rattle.text.specs.Scripts.{lines_before, first_fault, too_long, fault_of, whole_lines, unless}
use Rattle.text.specs.Written.{digits_text, script_line, script_text, open_script_text, ScriptsWritten}
use Rattle.text.proofs.Bounds.{digit_read, parts, read_whole}

onto_some : (b : ℕ) (ps : List (List ℕ)) → 0 < length (onto_first b ps)
onto_some b [] = omega arith
onto_some b (p ∷ ps) = omega arith

-- what was read is the numbers written out
numbers_written : (k : ℕ) (fs : List (List ℕ)) (ns : List ℕ) → numbers_from 1 k fs ≡ Ok ns → fs ≡ map digits_text (map (λ n. n ∷ []) ns)
unfolding numbers_from
numbers_written k [] ns e = let none : ns ≡ [] = cc in sym (ap (λ ms. map digits_text (map (λ n. n ∷ []) ms)) none)
numbers_written k (f ∷ fs) ns e =
    let p = parts (field_answer 1 k f) (numbers_from 1 (k + 1) fs) ns e in
    ap₂ (λ (x : List ℕ) (xs : List (List ℕ)). x ∷ xs) (digit_read k p.0 f p.2).1 (numbers_written (k + 1) fs p.1 p.3) ∙ sym (ap (λ ms. map digits_text (map (λ n. n ∷ []) ms)) p.4)

line_written : (w : Option ℕ) (l ns : List ℕ) → line_answer 1 w l ≡ Ok ns → l ≡ script_line ns
line_written w l ns h = sym (join_with_byte-slice_split 44 l) ∙ ap (join_with_byte 44) (numbers_written 1 (fields_of l) ns (read_whole w (numbers_from 1 1 (fields_of l)) ns h))

lines_written : (w : Option ℕ) (n : ℕ) (raw : List (List ℕ)) → first_fault w n raw ≡ None → raw ≡ map script_line (lines_before w raw)
unfolding first_fault lines_before
lines_written w n [] h = refl
lines_written w n (l ∷ ls) h = go (λ m. lines_written (Some m) (n + 1) ls) (line_answer 1 w l) refl h
  where
    go : ((m : ℕ) → first_fault (Some m) (n + 1) ls ≡ None → ls ≡ map script_line (lines_before (Some m) ls)) → (r : Result (List ℕ) LineFault) → line_answer 1 w l ≡ r
        → ◌≡◌ {A = Option ScriptFault} (elim r [ Ok ns ↦ first_fault (Some (length ns)) (n + 1) ls | Err e ↦ Some (Line n e) ]) None
        → l ∷ ls ≡ map script_line (elim r [ Ok ns ↦ ns ∷ lines_before (Some (length ns)) ls | Err e ↦ [] ])
    go rest (Ok ns) e h = ap₂ (λ (x : List ℕ) (xs : List (List ℕ)). x ∷ xs) (line_written w l ns e) (rest (length ns) h)
    go rest (Err d) e h = cc

-- lines put together again, the last one ended by CR LF or not
closed : List (List ℕ) → List ℕ
closed [] = []
closed (l ∷ ls) = l ++ (13 ∷ (10 ∷ closed ls))

opened : List (List ℕ) → List ℕ
opened [] = []
opened (l ∷ []) = l
opened (l ∷ (m ∷ ls)) = l ++ (13 ∷ (10 ∷ opened (m ∷ ls)))

lines_some : (b : ℕ) (bs : List ℕ) → 0 < length (lines_of (b ∷ bs))
unfolding lines_of
lines_some b [] = omega arith
lines_some b (c ∷ bs) =
    cond_both (eqb b 13 && eqb c 10) ([] ∷ lines_of bs) (onto_first b (lines_of (c ∷ bs))) (λ (ls : List (List ℕ)). 0 < length ls) (λ _. omega arith) (λ _. onto_some b (lines_of (c ∷ bs)))

closed_onto : (b : ℕ) (ls : List (List ℕ)) → 0 < length ls → closed (onto_first b ls) ≡ b ∷ closed ls
unfolding closed
closed_onto b [] h = absurd (omega arith)
closed_onto b (l ∷ ls) h = refl

opened_onto : (b : ℕ) (ls : List (List ℕ)) → opened (onto_first b ls) ≡ b ∷ opened ls
unfolding opened
opened_onto b [] = refl
opened_onto b (l ∷ []) = refl
opened_onto b (l ∷ (m ∷ ls)) = refl

abbrev Together : List ℕ → List (List ℕ) → Type 0
Together text ls = (text ≡ closed ls) ⊎ (text ≡ opened ls)

-- an empty line in front
empty_first : (bs : List ℕ) (ls : List (List ℕ)) → Together bs ls → Together (13 ∷ (10 ∷ bs)) ([] ∷ ls)
unfolding closed opened
empty_first bs ls (inl e) = inl (ap (λ t. 13 ∷ (10 ∷ t)) e)
empty_first bs [] (inr e) = inl (ap (λ t. 13 ∷ (10 ∷ t)) e)
empty_first bs (l ∷ ls) (inr e) = inr (ap (λ t. 13 ∷ (10 ∷ t)) e)

byte_first : (b : ℕ) (bs : List ℕ) (ls : List (List ℕ)) → 0 < length ls → Together bs ls → Together (b ∷ bs) (onto_first b ls)
byte_first b bs ls h (inl e) = inl (ap (λ t. b ∷ t) e ∙ sym (closed_onto b ls h))
byte_first b bs ls h (inr e) = inr (ap (λ t. b ∷ t) e ∙ sym (opened_onto b ls))

together : (text : List ℕ) → Together text (lines_of text)
unfolding lines_of closed opened
together [] = inl refl
together (b ∷ []) = inr refl
together (b ∷ (c ∷ bs)) =
    elim (cases_Bool (eqb b 13 && eqb c 10)) [
      | inl e ↦
          let p = and_parts (eqb b 13) (eqb c 10) e in
          let front : b ∷ (c ∷ bs) ≡ 13 ∷ (10 ∷ bs) = ap₂ (λ (x y : ℕ). x ∷ (y ∷ bs)) (eqb-true b 13 p.0) (eqb-true c 10 p.1) in
          subst (Together (b ∷ (c ∷ bs))) (sym (cond-true (eqb b 13 && eqb c 10) ([] ∷ lines_of bs) (onto_first b (lines_of (c ∷ bs))) e))
          (subst (λ (t : List ℕ). Together t ([] ∷ lines_of bs)) (sym front) (empty_first bs (lines_of bs) (together bs)))
      | inr e ↦
          subst (Together (b ∷ (c ∷ bs))) (sym (cond-false (eqb b 13 && eqb c 10) ([] ∷ lines_of bs) (onto_first b (lines_of (c ∷ bs))) e))
          (byte_first b (c ∷ bs) (lines_of (c ∷ bs)) (lines_some c bs) (together (c ∷ bs)))
    ]

closed_script : (ls : List (List ℕ)) → closed (map script_line ls) ≡ script_text ls
unfolding closed script_text
closed_script [] = refl
closed_script (l ∷ ls) = ap (λ t. script_line l ++ (13 ∷ (10 ∷ t))) (closed_script ls)

opened_script : (ls : List (List ℕ)) → opened (map script_line ls) ≡ open_script_text ls
unfolding opened open_script_text
opened_script [] = refl
opened_script (l ∷ []) = refl
opened_script (l ∷ (m ∷ ls)) = ap (λ t. script_line l ++ (13 ∷ (10 ∷ t))) (opened_script (m ∷ ls))

-- a text that is read as lines has no fault, and these are its lines
no_fault : (o : Option ScriptFault) (ls lines : List (List ℕ)) → unless o ls ≡ Ok lines → (o ≡ None) × (ls ≡ lines)
no_fault None ls lines e = let same : ls ≡ lines = cc in (refl, same)
no_fault (Some f) ls lines e = cc

not_long : (b : Bool) (o : Option ScriptFault) → cond b (Some TooLong) o ≡ None → (b ≡ false) × (o ≡ None)
not_long true o e = cc
not_long false o e = (refl, e)

pub scripts_written : ScriptsWritten
scripts_written text lines h =
    let a = no_fault (fault_of text) (whole_lines text) lines h in
    let b = not_long (too_long text) (first_fault None 1 (lines_of text)) a.0 in
    let kept = sym (cond-false (too_long text) [] (lines_before None (lines_of text)) b.0) ∙ a.1 in
    let raw : lines_of text ≡ map script_line lines = lines_written None 1 (lines_of text) b.1 ∙ ap (map script_line) kept in
    ⊎_elim
    (λ e. inl (e ∙ ap closed raw ∙ closed_script lines))
    (λ e. inr (e ∙ ap opened raw ∙ opened_script lines))
    (together text)
