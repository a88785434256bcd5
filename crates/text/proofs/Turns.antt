-- Lines read so far, and the lines that are left of a text. Assumes nothing.
use Rattle.std.proofs.Common.{◌≡◌, ℕ, ◌+◌, List, [], ◌∷◌, ◌++◌, length, Some, None, Ok, Err, Option, Result, sym, ap, ◌∙◌, subst, refl, Vec, append_assoc, append-nil}
use Rattle.std.specs.Result.{MatchResult, IsErrAnd}
use Rattle.std.specs.declared.alloc.Global.{Global}
use Rattle.text.specs.declared.fault.LineFault.{LineFault}
use Rattle.text.specs.declared.fault.ScriptFault.{ScriptFault}
use Rattle.text.specs.declared.fault.ScriptFault.TheVariants.{Line}
use Rattle.text.specs.declared.fault.Unread.{Unread}
use Rattle.text.specs.declared.fault.Unread.TheVariants.{Faulty, NoMemory}
use Rattle.text.specs.Faults.{at_line}
use Rattle.text.specs.Lines.{line_answer, ReadAs}
use Rattle.text.specs.Tables.{lists}
use Rattle.text.specs.Scripts.{lines_before, first_fault, ReadTo}

-- what `map_err` told of a line that was not read
pub mapped : {X : Type 0} (Q : Unread LineFault → Unread ScriptFault → Type 0) (r : Result X (Unread LineFault)) (s : Result X (Unread ScriptFault)) {e : Unread ScriptFault} → MatchResult r (λ x. s ≡ Ok x) (λ u. IsErrAnd s (Q u)) → s ≡ Err e
    → (u : Unread LineFault) × (r ≡ Err u) × Q u e
mapped Q (Ok x) s h is = cc
mapped Q (Err u) s h is = (u, refl, subst (λ t. IsErrAnd t (Q u)) is h)

-- of all lines these were read, and what is left has lines of this width, counted from n on
pub record Sofar (all done : List (List ℕ)) (w : Option ℕ) (n : ℕ) (left : List (List ℕ)) : Type 0 where
  pub lines : lines_before None all ≡ done ++ lines_before w left
  pub fault : first_fault None 1 all ≡ first_fault w n left

pub nothing_read : (all : List (List ℕ)) → Sofar all [] None 1 all
nothing_read all = record { lines = refl; fault = refl }

pub all_read : {all done : List (List ℕ)} {w : Option ℕ} {n : ℕ} {left : List (List ℕ)} → left ≡ [] → Sofar all done w n left → (first_fault None 1 all ≡ None) × (done ≡ lines_before None all)
unfolding lines_before first_fault
all_read {done = done} {w = w} {n = n} none s = (s.fault ∙ ap (first_fault w n) none, sym (s.lines ∙ ap (λ ls. done ++ lines_before w ls) none ∙ append-nil done))

module _ {all done : List (List ℕ)} {w : Option ℕ} {n : ℕ} {line : List ℕ} {left : List (List ℕ)} (s : Sofar all done w n (line ∷ left)) where
  -- what an answer to the line makes of it and the lines that are left
  abbrev lines_by : Result (List ℕ) LineFault → List (List ℕ)
  lines_by r = elim r [ Ok ns ↦ ns ∷ lines_before (Some (length ns)) left | Err e ↦ [] ]

  abbrev fault_by : Result (List ℕ) LineFault → Option ScriptFault
  fault_by r = elim r [ Ok ns ↦ first_fault (Some (length ns)) (n + 1) left | Err e ↦ Some (Line n e) ]

  pub line_read : {ns : List ℕ} → line_answer 1 w line ≡ Ok ns → Sofar all (done ++ (ns ∷ [])) (Some (length ns)) (n + 1) left
  unfolding lines_before first_fault
  line_read {ns = ns} h = record {
    lines = s.lines ∙ ap (λ r. done ++ lines_by r) h ∙ sym (append_assoc done (ns ∷ []) (lines_before (Some (length ns)) left));
    fault = s.fault ∙ ap fault_by h;
  }

  pub line_refused : {e : LineFault} → line_answer 1 w line ≡ Err e → (first_fault None 1 all ≡ Some (Line n e)) × (done ≡ lines_before None all)
  unfolding lines_before first_fault
  line_refused h = (s.fault ∙ ap fault_by h, sym (s.lines ∙ ap (λ r. done ++ lines_by r) h ∙ append-nil done))

  pub line_unread : (u : Unread LineFault) → ReadAs (line_answer 1 w line) (Err u) → (read : List (Vec ℕ Global)) → done ≡ lists read → ReadTo (first_fault None 1 all) (lines_before None all) read (Err (at_line n u))
  line_unread (Faulty e) h read same = let both = line_refused h in (both.0, sym same ∙ both.1)
  line_unread (NoMemory _) h read same = tt
