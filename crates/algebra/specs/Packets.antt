-- What frames tell of packets: seen, agreeing contents, determined. Packets count from 0 here. Assumes nothing.
use Rattle.std.specs.Prelude.{◌≡◌, ℕ, ◌+◌, ◌<◌, List, [], ◌∷◌, length, ◌≢◌, slice_index_or}
use Rattle.field.specs.Fields.{Ops}
use Rattle.algebra.specs.Frames.{code_at, summed, InSpan}
use Rattle.algebra.specs.Rows.{row_at}

-- packet m is seen: some combination of the frames has 1 at m and 0 at every packet before m
pub record Seen (o : Ops) (fs : List (List ℕ)) (m : ℕ) : Type 0 where
  pub vector : ℕ → ℕ
  pub codes : (i : ℕ) → vector i < o.size
  pub inside : InSpan o fs vector
  pub one_there : vector m ≡ 1
  pub zero_before : (i : ℕ) → i < m → vector i ≡ 0

-- packet m is the oldest unseen of the first a packets: the smallest of them that is not seen
pub record OldestUnseen (o : Ops) (fs : List (List ℕ)) (a m : ℕ) : Type 0 where
  pub within : m < a
  pub unseen : Seen o fs m → ⊥
  pub before : (i : ℕ) → i < m → Seen o fs i

-- contents: a symbol for each packet and place, each a code
pub record Contents (q : ℕ) : Type 0 where
  pub symbol : ℕ → ℕ → ℕ
  pub codes : (m j : ℕ) → symbol m j < q

-- contents agree with a frame of n coefficients and l symbols: each symbol of the frame is the sum of its coefficients times
-- the packets' symbols at that place
abbrev pub Agrees : (o : Ops) → ℕ → ℕ → Contents o.size → List ℕ → Type 0
Agrees o n l p f = (j : ℕ) → j < l → code_at f (n + j) ≡ summed o n (λ m. o.product (code_at f m) (p.symbol m j))

-- they agree with every one of some frames
abbrev pub AgreesAll : (o : Ops) → ℕ → ℕ → Contents o.size → List (List ℕ) → Type 0
AgreesAll o n l p fs = (i : ℕ) → i < length fs → Agrees o n l p (slice_index_or fs i [])

-- packet m is determined: all contents that agree with every frame have the same packet m
abbrev pub Determined : Ops → ℕ → ℕ → List (List ℕ) → ℕ → Type 0
Determined o n l fs m = (p q : Contents o.size) → AgreesAll o n l p fs → AgreesAll o n l q fs → (j : ℕ) → j < l → p.symbol m j ≡ q.symbol m j

-- row m is there and has no coefficient but its lead
pub record Bare (n : ℕ) (rows : List (List ℕ)) (m : ℕ) : Type 0 where
  pub lead : row_at rows m m ≡ 1
  pub others : (i : ℕ) → i < n → (i ≢ m) → row_at rows m i ≡ 0

-- packet a, and no other, becomes seen by one frame more
pub record BecomesSeen (o : Ops) (n : ℕ) (fs : List (List ℕ)) (f : List ℕ) (a : ℕ) : Type 0 where
  pub within : a < n
  pub after : Seen o (f ∷ fs) a
  pub before : Seen o fs a → ⊥
  pub alone : (m : ℕ) → m < n → (m ≢ a) → Seen o (f ∷ fs) m → Seen o fs m

-- a frame conflicts with others: some combination of them has its coefficients, but not its symbols
pub record Conflicts (o : Ops) (n l : ℕ) (fs : List (List ℕ)) (f : List ℕ) : Type 0 where
  pub combined : ℕ → ℕ
  pub codes : (i : ℕ) → combined i < o.size
  pub inside : InSpan o fs combined
  pub coefficients : (i : ℕ) → i < n → combined i ≡ code_at f i
  pub place : ℕ
  pub within : place < l
  pub symbol : combined (n + place) ≡ code_at f (n + place) → ⊥
