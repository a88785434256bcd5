-- Settings. Assumes nothing.
use Rattle.std.specs.Prelude.{◌≡◌, ℕ, List, [], ◌∷◌, Some, Ok, Err, Result}
use Rattle.text.specs.declared.fault.LineFault.{LineFault}
use Rattle.text.specs.declared.fault.SettingsFault.{SettingsFault}
use Rattle.text.specs.declared.fault.SettingsFault.TheVariants.{Line, NoMemory}
use Rattle.text.specs.declared.settings.Settings.{Settings}
use Rattle.text.specs.Cuts.{lines_of, first_of}
use Rattle.text.specs.Lines.{line_answer}

-- the first line, the only one that is read, has three fields of one to three digits
abbrev pub settings_answer : List ℕ → Result (List ℕ) LineFault
settings_answer text = line_answer 3 (Some 3) (first_of (lines_of text))

-- the three are q, L and Q; besides, memory may be wanting
abbrev pub ParsedSettings : List ℕ → Result Settings SettingsFault → Type 0
ParsedSettings text (Ok s) = settings_answer text ≡ Ok (s.q ∷ (s.symbols ∷ (s.queue ∷ [])))
ParsedSettings text (Err (Line e)) = settings_answer text ≡ Err e
ParsedSettings text (Err NoMemory) = Unit {0}
