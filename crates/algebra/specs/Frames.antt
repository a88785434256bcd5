-- Frames as lists of codes, their combinations and their span. Assumes nothing.
use Rattle.std.specs.Prelude.{◌≡◌, ℕ, zero, suc, ◌<◌, List, [], ◌∷◌, length, slice_index, slice_index_or}
use Rattle.field.specs.Fields.{Ops}

-- the code of a frame at a place; past its end it is 0
abbrev pub code_at : List ℕ → ℕ → ℕ
code_at f i = slice_index f i

-- every number of a list is a code, below q
abbrev pub Codes : ℕ → List ℕ → Type 0
Codes q f = (i : ℕ) → i < length f → code_at f i < q

-- a frame of w codes
pub record Frame (q w : ℕ) (f : List ℕ) : Type 0 where
  pub long : length f ≡ w
  pub codes : Codes q f

-- every one of a list is such a frame
abbrev pub Frames : ℕ → ℕ → List (List ℕ) → Type 0
Frames q w fs = (m : ℕ) → m < length fs → Frame q w (slice_index_or fs m [])

-- f 0 + f 1 + .. + f (n - 1)
unfoldable pub summed : Ops → ℕ → (ℕ → ℕ) → ℕ
summed o zero f = 0
summed o (suc n) f = o.sum (summed o n f) (f n)

-- the combination of frames by multiples, at a place: c 0 times the first, c 1 times the second, and so on, summed
unfoldable pub combination : Ops → (ℕ → ℕ) → List (List ℕ) → ℕ → ℕ
combination o c [] i = 0
combination o c (f ∷ fs) i = o.sum (o.product (c 0) (code_at f i)) (combination o (λ j. c (suc j)) fs i)

-- the span of frames: v, which has a code for each place, is some combination of them
pub record InSpan (o : Ops) (fs : List (List ℕ)) (v : ℕ → ℕ) : Type 0 where
  pub multiple : ℕ → ℕ
  pub codes : (j : ℕ) → multiple j < o.size
  pub is : (i : ℕ) → v i ≡ combination o multiple fs i
