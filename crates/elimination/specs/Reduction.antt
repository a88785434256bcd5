-- Reducing a frame by rows. Assumes nothing.
use Rattle.std.specs.Prelude.{◌≡◌, ℕ, ◌<◌, ◌≤◌, List, map, length, vec_items, Vec, slice_set}
use Rattle.std.specs.List.{range_with_len}
use Rattle.std.specs.declared.alloc.Global.{Global}
use Rattle.field.specs.Fields.{Ops}
use Rattle.algebra.specs.Frames.{code_at, Codes, Frames}
use Rattle.algebra.specs.Rows.{rest_at}
use Rattle.elimination.specs.Rows.{less_multiple}

-- the rows that a table holds
abbrev pub lists : List (Vec ℕ Global) → List (List ℕ)
lists rows = map vec_items rows

-- a frame, rows as wide as it, and room for what is left
pub record Reducible (q : ℕ) (rows : List (List ℕ)) (frame rest : List ℕ) : Type 0 where
  pub rows_frames : Frames q (length frame) rows
  pub fewer : length rows ≤ length frame
  pub codes : Codes q frame
  pub room : length rest ≡ length frame

-- what is left of a frame by the rows
unfoldable pub rest_row : Ops → List (List ℕ) → List ℕ → List ℕ
rest_row o rows f = map (rest_at o (length rows) rows f) (range_with_len 0 (length f))

-- a row is 0 at the first n places
abbrev pub NoCoefficient : ℕ → List ℕ → Type 0
NoCoefficient n row = (i : ℕ) → i < n → code_at row i ≡ 0

-- a is the first of the first n places at which a row is not 0
pub record FirstCoefficient (n : ℕ) (row : List ℕ) (a : ℕ) : Type 0 where
  pub within : a < n
  pub there : 0 < code_at row a
  pub before : (i : ℕ) → i < a → code_at row i ≡ 0

-- each code of a row times a factor
unfoldable pub multiple : Ops → ℕ → List ℕ → List ℕ
multiple o f row = map (λ i. o.product f (code_at row i)) (range_with_len 0 (length row))

-- a row that can be put into a table as row a
pub record Insertable (q : ℕ) (rows : List (List ℕ)) (a : ℕ) (row : List ℕ) : Type 0 where
  pub rows_frames : Frames q (length row) rows
  pub codes : Codes q row
  pub within : a < length rows
  pub wide : a < length row

-- the rows with one put in as row a, and taken from every other row as often as that row has packet a
unfoldable pub with_row : Ops → List (List ℕ) → ℕ → List ℕ → List (List ℕ)
with_row o rows a row = slice_set (map (λ old. less_multiple o old (code_at old a) row) rows) a row

-- no coefficient of the frame is left: rest is what is left
pub record Spanned (o : Ops) (rows : List (List ℕ)) (f rest : List ℕ) : Type 0 where
  pub rest_is : rest ≡ rest_row o rows f
  pub none : NoCoefficient (length rows) (rest_row o rows f)

-- a is the first coefficient that is left: row is what is left, scaled to 1 at a
pub record NewRow (o : Ops) (rows : List (List ℕ)) (f row : List ℕ) (a : ℕ) : Type 0 where
  pub first : FirstCoefficient (length rows) (rest_row o rows f) a
  pub row_is : row ≡ multiple o (o.inverse (code_at (rest_row o rows f) a)) (rest_row o rows f)
  pub codes : Codes o.size row
