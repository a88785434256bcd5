-- A row of codes as it is printed, byte by byte; 32 is a blank. Assumes nothing.
use Rattle.std.specs.Prelude.{ℕ, ◌-◌, List, ◌++◌, length, replicate, codes, decimal}
use Rattle.std.specs.List.{flat_map}

-- a code after a blank, padded on the left to three characters
abbrev pub code_text : ℕ → List ℕ
code_text n = codes " " ++ (replicate (3 - length (decimal n)) 32 ++ decimal n)

-- codes, one after another
abbrev pub codes_text : List ℕ → List ℕ
codes_text cs = flat_map code_text cs
