-- The theorems on the veto rule, over every lawful field. Assumes nothing.
use Rattle.std.specs.Prelude.{◌≡◌, ℕ, ◌+◌, ◌<◌, ◌≤◌, ◌↔◌, List, [], ◌∷◌, length, ◌≢◌, slice_index, slice_index_or}
use Rattle.field.specs.Fields.{Ops, Lawful}
use Rattle.algebra.specs.Frames.{code_at, Frame}
use Rattle.algebra.specs.Packets.{Seen, OldestUnseen}
use Rattle.algebra.specs.Rows.{ReducedForm}
use Rattle.law.specs.Choice.{Oldest, Asked, veto_at, Vetoed, Chosen, Records, AskedInOrder, listed_veto}

-- the rows of frames tell the oldest unseen packet
abbrev pub OldestByRows : Type 0
OldestByRows = (o : Ops) → Lawful o → (n l : ℕ) (fs rows : List (List ℕ)) → ReducedForm o n l fs rows → (a : ℕ) → a ≤ n → (k : ℕ) → Oldest a rows k ↔ OldestUnseen o fs a k

-- where there are at least as many codes as relays, at each packet that is asked for some code is not vetoed, whatever codes stand
-- before it at the packets that are asked for
abbrev pub FreeCode : Type 0
FreeCode = (o : Ops) → Lawful o → (n l a : ℕ) → a ≤ n → (records : List (List (List ℕ))) → Records o.size n l records → length records ≤ o.size
    → (f : ℕ → ℕ) → ((m : ℕ) → f m < o.size) → ((m : ℕ) → (Asked a records m → ⊥) → f m ≡ 0) → (k : ℕ) → Asked a records k → (c : ℕ) × ((c < o.size) × (Vetoed o a records f k c → ⊥))

-- so the rule chooses coefficients, and one choice alone
abbrev pub OneChoice : Type 0
OneChoice = (o : Ops) → Lawful o → (n l a : ℕ) → a ≤ n → (records : List (List (List ℕ))) → Records o.size n l records → length records ≤ o.size
    → (f : ℕ → ℕ) × (Chosen o a records f × ((g : ℕ → ℕ) → Chosen o a records g → (k : ℕ) → g k ≡ f k))

-- the sum vetoed is the sum over the packets that are asked for, since every other coefficient is 0
abbrev pub VetoByList : Type 0
VetoByList = (o : Ops) → Lawful o → (n l a : ℕ) → a ≤ n → (records : List (List (List ℕ))) → Records o.size n l records → (f : ℕ → ℕ) → Chosen o a records f
    → (us : List ℕ) → AskedInOrder a records us → (i : ℕ) → i < length records → (j : ℕ) → j < length us → veto_at o (slice_index_or records i []) f (slice_index us j) ≡ listed_veto o (slice_index_or records i []) f us j

-- a frame with another coefficient at the oldest unseen packet than the sum vetoed there shows that packet
abbrev pub ShowsOldest : Type 0
ShowsOldest = (o : Ops) → Lawful o → (n l : ℕ) (fs rows : List (List ℕ)) → ReducedForm o n l fs rows → (f : List ℕ) → Frame o.size (n + l) f → (a : ℕ) → a ≤ n
    → (k : ℕ) → OldestUnseen o fs a k → (code_at f k ≢ veto_at o rows (code_at f) k) → Seen o (f ∷ fs) k
