-- Texts made by writing numbers out, and that they are read back. Assumes nothing.
use Rattle.std.specs.Prelude.{◌≡◌, ℕ, ◌+◌, ◌*◌, ◌<◌, ◌≤◌, ◌⊎◌, List, [], ◌∷◌, ◌++◌, map, length, fold, Ok, slice_index, slice_index_or}
use Rattle.std.specs.List.{join_with_byte}
use Rattle.text.specs.Scripts.{script_answer}
use Rattle.text.specs.Configured.{settings_answer}

-- digits as bytes
abbrev pub digits_text : List ℕ → List ℕ
digits_text ds = map (λ d. 48 + d) ds

-- a line of fields, each given by its digits, with commas (44) between them
abbrev pub line_text : List (List ℕ) → List ℕ
line_text fs = join_with_byte 44 (map digits_text fs)

-- a line of single digits
abbrev pub script_line : List ℕ → List ℕ
script_line ds = line_text (map (λ d. d ∷ []) ds)

-- a script: every line ended by CR LF (13, 10)
unfoldable pub script_text : List (List ℕ) → List ℕ
script_text [] = []
script_text (l ∷ ls) = script_line l ++ (13 ∷ (10 ∷ script_text ls))

-- the same, the last line ended by the text's end
unfoldable pub open_script_text : List (List ℕ) → List ℕ
open_script_text [] = []
open_script_text (l ∷ []) = script_line l
open_script_text (l ∷ (m ∷ ls)) = script_line l ++ (13 ∷ (10 ∷ open_script_text (m ∷ ls)))

-- lines of one width from 1 to 8, all of digits, few enough and short enough
pub record Writable (w : ℕ) (lines : List (List ℕ)) : Type 0 where
  pub some : 1 ≤ w
  pub few_fields : w ≤ 8
  pub wide : (i : ℕ) → i < length lines → length (slice_index_or lines i []) ≡ w
  pub digits : (i k : ℕ) → slice_index (slice_index_or lines i []) k ≤ 9
  pub few_lines : length lines ≤ 1024
  pub short : length (script_text lines) ≤ 16384

-- a script that was written out is read back as its lines, whichever way its last line ends
pub record ReadBack (lines : List (List ℕ)) : Type 0 where
  pub closed : script_answer (script_text lines) ≡ Ok lines
  pub open_ended : script_answer (open_script_text lines) ≡ Ok lines

abbrev pub ScriptsReadBack : Type 0
ScriptsReadBack = (w : ℕ) (lines : List (List ℕ)) → Writable w lines → ReadBack lines

-- and nothing else is read: a text that is read as lines is those lines written out
abbrev pub ScriptsWritten : Type 0
ScriptsWritten = (text : List ℕ) (lines : List (List ℕ)) → script_answer text ≡ Ok lines → (text ≡ script_text lines) ⊎ (text ≡ open_script_text lines)

-- the number that digits say, after digits that say a
abbrev pub value_after : ℕ → List ℕ → ℕ
value_after a ds = fold (λ n d. n * 10 + d) a ds

-- one to m digits
pub record Digits (m : ℕ) (ds : List ℕ) : Type 0 where
  pub some : 1 ≤ length ds
  pub few : length ds ≤ m
  pub each : (k : ℕ) → slice_index ds k ≤ 9

-- three numbers that were written out are read back, whether the text ends there or goes on in another line
pub record SettingsBack (a b c more : List ℕ) : Type 0 where
  pub alone : settings_answer (line_text (a ∷ (b ∷ (c ∷ [])))) ≡ Ok (value_after 0 a ∷ (value_after 0 b ∷ (value_after 0 c ∷ [])))
  pub before_more : settings_answer (line_text (a ∷ (b ∷ (c ∷ []))) ++ (13 ∷ (10 ∷ more))) ≡ Ok (value_after 0 a ∷ (value_after 0 b ∷ (value_after 0 c ∷ [])))

abbrev pub SettingsReadBack : Type 0
SettingsReadBack = (a b c more : List ℕ) → Digits 3 a → Digits 3 b → Digits 3 c → SettingsBack a b c more
