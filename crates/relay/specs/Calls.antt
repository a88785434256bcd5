-- What each call of a relay answers, and the state that it leaves. Assumes nothing.
use Rattle.std.specs.Prelude.{◌≡◌, ℕ, zero, suc, ◌-◌, ◌<◌, List, length, Some, None, Ok, Err, Option, Result}
use Rattle.faults.specs.Refusals.{RefusedBy}
use Rattle.field.specs.Fields.{Ops}
use Rattle.algebra.specs.Frames.{code_at, InSpan}
use Rattle.algebra.specs.Packets.{Contents, AgreesAll, Determined, Conflicts}
use Rattle.elimination.specs.declared.fault.RowsFault.{RowsFault}
use Rattle.elimination.specs.declared.fault.RowsFault.TheVariants.{NotStarted, Conflict, NotDetermined, NoMemory}
use Rattle.elimination.specs.Tables.{Held, size_answer, empty_table, frame_answer, Shows, seen_set, packet_answer}
use Rattle.relay.specs.States.{State}

-- a start leaves an empty table; refused, it leaves what was there
abbrev pub Starts : Ops → ℕ → ℕ → Option State → Result (Unit {0}) RowsFault → Option State → Type 0
Starts o n l s (Ok _) t = (size_answer n l ≡ Ok tt) × (t ≡ Some (record { ops = o; table = empty_table o.size n l }))
Starts o n l s (Err e) t = RefusedBy (size_answer n l) (λ e. e ≡ NoMemory) e × (t ≡ s)

-- hearing a frame: 0 where it is in the span, else the packet that it shows; refused where it is no frame for the relay, and then
-- where it conflicts with what was accepted
abbrev pub HeardBy : State → List ℕ → Result ℕ RowsFault → Option State → Type 0
HeardBy s f (Ok zero) t = (frame_answer s.ops s.table f ≡ Ok tt) × InSpan s.ops s.table.rows (code_at f) × (t ≡ Some s)
HeardBy s f (Ok (suc a)) t =
    (frame_answer s.ops s.table f ≡ Ok tt) × ((u : Held) × (Shows s.ops s.table f a u × (t ≡ Some (record { ops = s.ops; table = u }))))
HeardBy s f (Err e) t =
    RefusedBy (frame_answer s.ops s.table f) (λ e. (e ≡ Conflict) × Conflicts s.ops s.table.packets s.table.symbols s.table.rows f) e × (t ≡ Some s)

abbrev pub Hears : Option State → List ℕ → Result ℕ RowsFault → Option State → Type 0
Hears None f r t = (r ≡ Err NotStarted) × (t ≡ None)
Hears (Some s) f r t = HeardBy s f r t

-- the set of the packets seen
abbrev pub seen_answer : Option State → Result ℕ RowsFault
seen_answer None = Err NotStarted
seen_answer (Some s) = Ok (seen_set s.table.rows s.table.packets)

-- c is packet k, counted from 1, in all contents that agree with the rows
pub record Holds (s : State) (k : ℕ) (c : List ℕ) : Type 0 where
  pub long : length c ≡ s.table.symbols
  pub is : (p : Contents s.ops.size) → AgreesAll s.ops s.table.packets s.table.symbols p s.table.rows → (j : ℕ) → j < s.table.symbols → code_at c j ≡ p.symbol (k - 1) j

-- fetching a packet: exactly those that are determined
abbrev pub FetchedBy : State → ℕ → List ℕ → Result (Unit {0}) RowsFault → List ℕ → Type 0
FetchedBy s k b (Ok _) c = (packet_answer s.table k (length b) ≡ Ok tt) × Determined s.ops s.table.packets s.table.symbols s.table.rows (k - 1) × Holds s k c
FetchedBy s k b (Err e) c =
    RefusedBy (packet_answer s.table k (length b)) (λ e. (e ≡ NotDetermined) × (Determined s.ops s.table.packets s.table.symbols s.table.rows (k - 1) → ⊥)) e × (c ≡ b)

abbrev pub Fetches : Option State → ℕ → List ℕ → Result (Unit {0}) RowsFault → List ℕ → Type 0
Fetches None k b r c = (r ≡ Err NotStarted) × (c ≡ b)
Fetches (Some s) k b r c = FetchedBy s k b r c
