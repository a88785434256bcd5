-- Rows by lead in reduced row echelon form. Assumes nothing.
use Rattle.std.specs.Prelude.{◌≡◌, ℕ, ◌+◌, ◌<◌, ◌⊎◌, List, [], length, ◌≢◌, slice_index_or}
use Rattle.field.specs.Fields.{Ops}
use Rattle.algebra.specs.Frames.{code_at, Frames, summed, InSpan}

-- the code of row m at place i; row m is the one with lead m
abbrev pub row_at : List (List ℕ) → ℕ → ℕ → ℕ
row_at rows m i = code_at (slice_index_or rows m []) i

-- n rows in reduced form: the first coefficient of a row that is not 0 is 1 and stands at the row's own place, its lead;
-- every other row has 0 there; a row that is missing is 0 throughout
pub record Reduced (n : ℕ) (rows : List (List ℕ)) : Type 0 where
  pub tall : length rows ≡ n
  pub lead : (m : ℕ) → m < n → (row_at rows m m ≡ 1) ⊎ ((i : ℕ) → row_at rows m i ≡ 0)
  pub before : (m i : ℕ) → m < n → i < m → row_at rows m i ≡ 0
  pub column : (j m : ℕ) → j < n → m < n → row_at rows m m ≡ 1 → (j ≢ m) → row_at rows j m ≡ 0

-- rows and frames with one span
pub record SameSpan (o : Ops) (rows fs : List (List ℕ)) : Type 0 where
  pub down : (v : ℕ → ℕ) → ((i : ℕ) → v i < o.size) → InSpan o rows v → InSpan o fs v
  pub up : (v : ℕ → ℕ) → ((i : ℕ) → v i < o.size) → InSpan o fs v → InSpan o rows v

-- the reduced form of frames of n coefficients and l symbols
pub record ReducedForm (o : Ops) (n l : ℕ) (fs rows : List (List ℕ)) : Type 0 where
  pub frames : Frames o.size (n + l) fs
  pub rows_frames : Frames o.size (n + l) rows
  pub reduced : Reduced n rows
  pub same_span : SameSpan o rows fs

-- what is left of a frame at a place, when from it is taken each row times the frame's coefficient at that row's lead
abbrev pub rest_at : Ops → ℕ → List (List ℕ) → List ℕ → ℕ → ℕ
rest_at o n rows f i = o.difference (code_at f i) (summed o n (λ m. o.product (code_at f m) (row_at rows m i)))

-- what is left of a frame, scaled to 1 at packet a
abbrev pub scaled_at : Ops → ℕ → List (List ℕ) → List ℕ → ℕ → ℕ → ℕ
scaled_at o n rows f a i = o.product (o.inverse (rest_at o n rows f a)) (rest_at o n rows f i)

-- the rows with that row put in as row a, and taken from every other row as often as that row has packet a
pub record Inserted (o : Ops) (n l : ℕ) (rows : List (List ℕ)) (f : List ℕ) (a : ℕ) (others : List (List ℕ)) : Type 0 where
  pub tall : length others ≡ n
  pub rows_frames : Frames o.size (n + l) others
  pub new : (i : ℕ) → i < n + l → row_at others a i ≡ scaled_at o n rows f a i
  pub old : (m : ℕ) → m < n → (m ≢ a) → (i : ℕ) → i < n + l → row_at others m i ≡ o.difference (row_at rows m i) (o.product (row_at rows m a) (scaled_at o n rows f a i))
