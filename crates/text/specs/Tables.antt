-- Lines of numbers. Assumes nothing.
use Rattle.std.specs.Prelude.{ℕ, List, [], map, vec_items, Vec, slice_index, slice_index_or}
use Rattle.std.specs.declared.alloc.Global.{Global}

-- the lines that vectors hold
abbrev pub lists : List (Vec ℕ Global) → List (List ℕ)
lists lines = map vec_items lines

-- the number at a place of a line, both counted from 0; 0 where there is none
abbrev pub number_at : List (List ℕ) → ℕ → ℕ → ℕ
number_at lines i k = slice_index (slice_index_or lines i []) k
