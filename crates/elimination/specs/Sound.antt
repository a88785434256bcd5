-- What rows always are: frames of codes in reduced form. It speaks of numbers alone. Assumes nothing.
use Rattle.std.specs.Prelude.{ℕ, ◌+◌, List}
use Rattle.algebra.specs.Frames.{Frames}
use Rattle.algebra.specs.Rows.{Reduced}

-- n rows of n coefficients and l symbols, all below q, in reduced form
pub record Sound (q n l : ℕ) (rows : List (List ℕ)) : Type 0 where
  pub frames : Frames q (n + l) rows
  pub reduced : Reduced n rows
