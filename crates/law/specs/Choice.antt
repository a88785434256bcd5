-- How the coefficients of a frame are chosen. A record has the coefficients of one relay's rows, by lead; packets and relays count
-- from 0. Assumes nothing.
use Rattle.std.specs.Prelude.{◌≡◌, ℕ, ◌+◌, ◌<◌, List, [], length, slice_index, slice_index_or}
use Rattle.field.specs.Fields.{Ops}
use Rattle.algebra.specs.Frames.{Frames, summed}
use Rattle.algebra.specs.Rows.{row_at, Reduced}

-- by its rows, packet k is a relay's oldest unseen of the first a packets
pub record Oldest (a : ℕ) (rows : List (List ℕ)) (k : ℕ) : Type 0 where
  pub within : k < a
  pub missing : row_at rows k k ≡ 1 → ⊥
  pub before : (m : ℕ) → m < k → row_at rows m m ≡ 1

-- packet k is the oldest unseen packet of some relay
pub record Asked (a : ℕ) (records : List (List (List ℕ))) (k : ℕ) : Type 0 where
  pub relay : ℕ
  pub known : relay < length records
  pub oldest : Oldest a (slice_index_or records relay []) k

-- the sum that a relay vetoes at packet k: over the packets before it, the frame's coefficient there times the coefficient at k in
-- the relay's row with that lead. Packets that no relay asks for have coefficient 0, and add nothing
abbrev pub veto_at : Ops → List (List ℕ) → (ℕ → ℕ) → ℕ → ℕ
veto_at o rows f k = summed o k (λ m. o.product (f m) (row_at rows m k))

-- some relay whose oldest unseen packet is k vetoes this code
pub record Vetoed (o : Ops) (a : ℕ) (records : List (List (List ℕ))) (f : ℕ → ℕ) (k code : ℕ) : Type 0 where
  pub relay : ℕ
  pub known : relay < length records
  pub oldest : Oldest a (slice_index_or records relay []) k
  pub is : code ≡ veto_at o (slice_index_or records relay []) f k

-- the coefficients that the rule chooses: at each packet that is asked for, the smallest code that nobody vetoes, and 0 elsewhere
pub record Chosen (o : Ops) (a : ℕ) (records : List (List (List ℕ))) (f : ℕ → ℕ) : Type 0 where
  pub codes : (k : ℕ) → f k < o.size
  pub free : (k : ℕ) → Asked a records k → Vetoed o a records f k (f k) → ⊥
  pub smallest : (k : ℕ) → Asked a records k → (code : ℕ) → code < f k → Vetoed o a records f k code
  pub others : (k : ℕ) → (Asked a records k → ⊥) → f k ≡ 0

-- records of n rows each, in reduced form, of n coefficients and whatever else rows may have
abbrev pub Records : ℕ → ℕ → ℕ → List (List (List ℕ)) → Type 0
Records q n l records = (i : ℕ) → i < length records → Frames q (n + l) (slice_index_or records i []) × Reduced n (slice_index_or records i [])

-- u(1) < u(2) < .. , listed from 0 on: exactly the packets that are asked for, in ascending order
pub record AskedInOrder (a : ℕ) (records : List (List (List ℕ))) (us : List ℕ) : Type 0 where
  pub each : (j : ℕ) → j < length us → Asked a records (slice_index us j)
  pub all : (k : ℕ) → Asked a records k → (j : ℕ) × ((j < length us) × (slice_index us j ≡ k))
  pub ascending : (i j : ℕ) → i < j → j < length us → slice_index us i < slice_index us j

-- the sum that a relay vetoes at u(j), as the rule has it: over all l < j, a(l) times the coefficient at u(j) in the relay's row with
-- lead u(l)
abbrev pub listed_veto : Ops → List (List ℕ) → (ℕ → ℕ) → List ℕ → ℕ → ℕ
listed_veto o rows f us j = summed o j (λ i. o.product (f (slice_index us i)) (row_at rows (slice_index us i) (slice_index us j)))
