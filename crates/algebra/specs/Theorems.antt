-- The theorems on reduced forms, over every lawful field. Assumes nothing.
use Rattle.std.specs.Prelude.{◌≡◌, ℕ, ◌+◌, ◌<◌, ◌≤◌, ◌⊎◌, ◌↔◌, List, [], ◌∷◌, length}
use Rattle.field.specs.Fields.{Ops, Lawful}
use Rattle.algebra.specs.Frames.{code_at, Frame, Frames, InSpan}
use Rattle.algebra.specs.Rows.{row_at, ReducedForm, rest_at, Inserted}
use Rattle.algebra.specs.Packets.{Seen, OldestUnseen, Contents, AgreesAll, Determined, Bare, BecomesSeen, Conflicts}

-- frames have one reduced form
abbrev pub OneForm : Type 0
OneForm = (o : Ops) → Lawful o → (n l : ℕ) (fs rows others : List (List ℕ)) → ReducedForm o n l fs rows → ReducedForm o n l fs others → rows ≡ others

-- the row with lead m is there exactly where packet m is seen
abbrev pub SeenRows : Type 0
SeenRows = (o : Ops) → Lawful o → (n l : ℕ) (fs rows : List (List ℕ)) → ReducedForm o n l fs rows → (m : ℕ) → m < n
    → (row_at rows m m ≡ 1) ↔ Seen o fs m

-- of the first a packets either all are seen, or one is the oldest unseen, and no other
abbrev pub OneOldest : Type 0
OneOldest = (o : Ops) → Lawful o → (n l : ℕ) (fs rows : List (List ℕ)) → ReducedForm o n l fs rows → (a : ℕ) → a ≤ n
    → ((m : ℕ) → m < a → Seen o fs m) ⊎ ((m : ℕ) × (OldestUnseen o fs a m × ((k : ℕ) → OldestUnseen o fs a k → k ≡ m)))

-- a frame is in the span exactly where nothing is left of it
abbrev pub NothingLeft : Type 0
NothingLeft = (o : Ops) → Lawful o → (n l : ℕ) (fs rows : List (List ℕ)) → ReducedForm o n l fs rows → (f : List ℕ) → Frame o.size (n + l) f
    → InSpan o fs (code_at f) ↔ ((i : ℕ) → rest_at o n rows f i ≡ 0)

-- a packet is determined exactly where its row has no other coefficient
abbrev pub DeterminedRows : Type 0
DeterminedRows = (o : Ops) → Lawful o → (n l : ℕ) (fs rows : List (List ℕ)) → ReducedForm o n l fs rows → 0 < l → (m : ℕ) → m < n
    → Determined o n l fs m ↔ Bare n rows m

-- and then the symbols of that row are the packet of all contents that agree with the frames
abbrev pub PacketInRow : Type 0
PacketInRow = (o : Ops) → Lawful o → (n l : ℕ) (fs rows : List (List ℕ)) → ReducedForm o n l fs rows → (m : ℕ) → m < n → Bare n rows m
    → (p : Contents o.size) → AgreesAll o n l p fs → (j : ℕ) → j < l → p.symbol m j ≡ row_at rows m (n + j)

-- frames that have a reduced form leave some contents
abbrev pub SomeContents : Type 0
SomeContents = (o : Ops) → Lawful o → (n l : ℕ) (fs rows : List (List ℕ)) → ReducedForm o n l fs rows → (p : Contents o.size) × AgreesAll o n l p fs

-- n rows of zeros are the reduced form of no frames
abbrev pub EmptyForm : Type 0
EmptyForm = (o : Ops) → Lawful o → (n l : ℕ) (rows : List (List ℕ)) → Frames o.size (n + l) rows → length rows ≡ n → ((m i : ℕ) → row_at rows m i ≡ 0)
    → ReducedForm o n l [] rows

-- a frame of which nothing is left leaves the reduced form as it is
abbrev pub SameForm : Type 0
SameForm = (o : Ops) → Lawful o → (n l : ℕ) (fs rows : List (List ℕ)) → ReducedForm o n l fs rows → (f : List ℕ) → Frame o.size (n + l) f
    → ((i : ℕ) → rest_at o n rows f i ≡ 0) → ReducedForm o n l (f ∷ fs) rows

-- any other frame of which a coefficient is left puts in one row: what is left, scaled to 1 at its first coefficient a, and
-- taken from every other row as often as that row has packet a
abbrev pub InsertedForm : Type 0
InsertedForm = (o : Ops) → Lawful o → (n l : ℕ) (fs rows : List (List ℕ)) → ReducedForm o n l fs rows → (f : List ℕ) → Frame o.size (n + l) f
    → (a : ℕ) → a < n → 0 < rest_at o n rows f a → ((i : ℕ) → i < a → rest_at o n rows f i ≡ 0)
    → (others : List (List ℕ)) → Inserted o n l rows f a others → ReducedForm o n l (f ∷ fs) others

-- by such a frame packet a, and no other, becomes seen
abbrev pub InsertedSeen : Type 0
InsertedSeen = (o : Ops) → Lawful o → (n l : ℕ) (fs rows : List (List ℕ)) → ReducedForm o n l fs rows → (f : List ℕ) → Frame o.size (n + l) f
    → (a : ℕ) → a < n → 0 < rest_at o n rows f a → ((i : ℕ) → i < a → rest_at o n rows f i ≡ 0)
    → (others : List (List ℕ)) → Inserted o n l rows f a others → BecomesSeen o n fs f a

-- the reduced form of the rows and one frame more is that of the frames and one frame more
abbrev pub JoinedForm : Type 0
JoinedForm = (o : Ops) → Lawful o → (n l : ℕ) (fs rows : List (List ℕ)) → ReducedForm o n l fs rows → (f : List ℕ) (others : List (List ℕ))
    → ReducedForm o n l (f ∷ rows) others → ReducedForm o n l (f ∷ fs) others

-- a frame of which a symbol is left and no coefficient conflicts with the frames
abbrev pub SymbolLeft : Type 0
SymbolLeft = (o : Ops) → Lawful o → (n l : ℕ) (fs rows : List (List ℕ)) → ReducedForm o n l fs rows → (f : List ℕ) → Frame o.size (n + l) f
    → ((i : ℕ) → i < n → rest_at o n rows f i ≡ 0) → (j : ℕ) → j < l → 0 < rest_at o n rows f (n + j) → Conflicts o n l fs f

-- and no contents agree with a frame and with frames that it conflicts with
abbrev pub NoContents : Type 0
NoContents = (o : Ops) → Lawful o → (n l : ℕ) (fs rows : List (List ℕ)) → ReducedForm o n l fs rows → (f : List ℕ) → Frame o.size (n + l) f
    → Conflicts o n l fs f → (p : Contents o.size) → AgreesAll o n l p (f ∷ fs) → ⊥

-- where contents agree with a frame and with all frames before it, what is left of that frame has no symbol if it has no
-- coefficient
abbrev pub AcceptedFrames : Type 0
AcceptedFrames = (o : Ops) → Lawful o → (n l : ℕ) (fs rows : List (List ℕ)) → ReducedForm o n l fs rows → (f : List ℕ) → Frame o.size (n + l) f
    → ((i : ℕ) → i < n → rest_at o n rows f i ≡ 0) → (p : Contents o.size) → AgreesAll o n l p (f ∷ fs) → (j : ℕ) → j < l → rest_at o n rows f (n + j) ≡ 0
