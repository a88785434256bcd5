-- A text is cut into lines at CR LF, and a line into fields at commas. Assumes nothing.
use Rattle.std.specs.Prelude.{ℕ, cond, ◌&&◌, List, [], ◌∷◌, ◌==◌}
use Rattle.std.specs.List.{onto_first, slice_split}

-- the lines of a text: CR LF (13, 10) ends a line, and bytes that stand after the last CR LF are a line too
unfoldable pub lines_of : List ℕ → List (List ℕ)
lines_of [] = []
lines_of (b ∷ []) = (b ∷ []) ∷ []
lines_of (b ∷ (c ∷ bs)) = cond (b == 13 && c == 10) ([] ∷ lines_of bs) (onto_first b (lines_of (c ∷ bs)))

-- the fields of a line: commas (44) stand between them, so a line without a comma is one field
abbrev pub fields_of : List ℕ → List (List ℕ)
fields_of line = slice_split (λ b. b == 44) line

-- the first line of a text; an empty text has an empty one
abbrev pub first_of : List (List ℕ) → List ℕ
first_of [] = []
first_of (l ∷ ls) = l
