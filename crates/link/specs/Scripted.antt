-- The scripted link. Assumes nothing.
use Rattle.std.specs.Prelude.{◌≡◌, ℕ, List, length}
use Rattle.text.specs.Scripts.{script_lines}
use Rattle.link.specs.declared.scripted.Scripted.{Scripted}
use Rattle.link.specs.Meanings.{Meaning, unused}
use Rattle.link.specs.Carried.{with_counts}
use Rattle.link.specs.Counts.{line_counts}

-- the counts of the line for the last slot
abbrev pub scripted_counts : Scripted → List ℕ
scripted_counts s = line_counts (script_lines s.script) s.slots.carried

-- its slots and its frame are those that it keeps
abbrev pub scripted_meaning : Scripted → Meaning
scripted_meaning s = with_counts s.slots (scripted_counts s)

-- over a send the script stays, so each slot has the counts of its own line
abbrev pub ScriptedGoes : Scripted → List ℕ → Scripted → Type 0
ScriptedGoes s frame t = script_lines t.script ≡ script_lines s.script

-- a scripted link before its first slot: as many slots as lines
pub record ScriptedNew (lines : List (List ℕ)) (s : Scripted) : Type 0 where
  pub script_is : script_lines s.script ≡ lines
  pub meaning_is : scripted_meaning s ≡ unused (length lines)
