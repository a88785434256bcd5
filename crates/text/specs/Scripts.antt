-- Loss scripts: what the lines of a text are, and where its first fault is. Assumes nothing.
use Rattle.std.specs.Prelude.{◌≡◌, ℕ, ◌+◌, Bool, cond, ◌||◌, List, [], ◌∷◌, length, Some, None, Ok, Err, vec_items, Vec, Option, Result, nat_lt}
use Rattle.std.specs.declared.alloc.Global.{Global}
use Rattle.text.specs.declared.fault.ScriptFault.{ScriptFault}
use Rattle.text.specs.declared.fault.ScriptFault.TheVariants.{Line, TooLong, NoMemory}
use Rattle.text.specs.declared.fault.Unread.{Unread}
use Rattle.text.specs.declared.fault.Unread.TheVariants as unread
use Rattle.text.specs.declared.script.Script.{Script}
use Rattle.text.specs.Cuts.{lines_of}
use Rattle.text.specs.Lines.{line_answer}
use Rattle.text.specs.Tables.{lists}

-- the whole lines before the first fault: fields are single digits, and each line has as many as the first, which has at most 8
unfoldable pub lines_before : Option ℕ → List (List ℕ) → List (List ℕ)
lines_before w [] = []
lines_before w (l ∷ ls) = elim (line_answer 1 w l) [ Ok ns ↦ ns ∷ lines_before (Some (length ns)) ls | Err e ↦ [] ]

-- the first fault in lines that are counted from n on
unfoldable pub first_fault : Option ℕ → ℕ → List (List ℕ) → Option ScriptFault
first_fault w n [] = None
first_fault w n (l ∷ ls) = elim (line_answer 1 w l) [ Ok ns ↦ first_fault (Some (length ns)) (n + 1) ls | Err e ↦ Some (Line n e) ]

-- over 16,384 bytes or 1,024 lines
abbrev pub too_long : List ℕ → Bool
too_long text = nat_lt 16384 (length text) || nat_lt 1024 (length (lines_of text))

-- the fault of a text, if it has one: too long a text has that before every other
abbrev pub fault_of : List ℕ → Option ScriptFault
fault_of text = cond (too_long text) (Some TooLong) (first_fault None 1 (lines_of text))

-- the whole lines before the fault, none where the text is too long
abbrev pub whole_lines : List ℕ → List (List ℕ)
whole_lines text = cond (too_long text) [] (lines_before None (lines_of text))

-- a text without a fault is its lines
abbrev pub unless : Option ScriptFault → List (List ℕ) → Result (List (List ℕ)) ScriptFault
unless None lines = Ok lines
unless (Some e) lines = Err e

abbrev pub script_answer : List ℕ → Result (List (List ℕ)) ScriptFault
script_answer text = unless (fault_of text) (whole_lines text)

-- the lines of a script
abbrev pub script_lines : Script → List (List ℕ)
script_lines s = lists (vec_items s.lines)

-- these lines were read, up to this fault, if there is one; besides, memory may be wanting
abbrev pub ReadTo : Option ScriptFault → List (List ℕ) → List (Vec ℕ Global) → Result (Unit {0}) (Unread ScriptFault) → Type 0
ReadTo fault lines read (Ok _) = (fault ≡ None) × (lists read ≡ lines)
ReadTo fault lines read (Err (unread.Faulty e)) = (fault ≡ Some e) × (lists read ≡ lines)
ReadTo fault lines read (Err (unread.NoMemory _)) = Unit {0}

-- the lines of a text were read, whatever its length
abbrev pub ReadLines : List ℕ → List (Vec ℕ Global) → Result (Unit {0}) (Unread ScriptFault) → Type 0
ReadLines text = ReadTo (first_fault None 1 (lines_of text)) (lines_before None (lines_of text))

-- the same, but nothing of a text that is too long
abbrev pub ReadText : List ℕ → List (Vec ℕ Global) → Result (Unit {0}) (Unread ScriptFault) → Type 0
ReadText text = ReadTo (fault_of text) (whole_lines text)

-- a text is read as its lines, or refused by its fault; besides, memory may be wanting
abbrev pub ParsedScript : List ℕ → Result Script ScriptFault → Type 0
ParsedScript text (Ok s) = script_answer text ≡ Ok (script_lines s)
ParsedScript text (Err (Line n e)) = script_answer text ≡ Err (Line n e)
ParsedScript text (Err TooLong) = script_answer text ≡ Err TooLong
ParsedScript text (Err NoMemory) = Unit {0}
