-- What a table of rows does with frames. Assumes nothing.
use Rattle.std.specs.Prelude.{◌≡◌, ℕ, zero, suc, ◌+◌, ◌-◌, ◌*◌, ◌^◌, ◌<◌, cond, ◌&&◌, List, [], ◌∷◌, length, drop, replicate, Ok, Err, vec_items, Result, ◌==◌, nat_le, slice_index_or}
use Rattle.faults.specs.Refusals.{RefusedBy}
use Rattle.field.specs.Fields.{Ops}
use Rattle.field.specs.declared.fault.FieldFault.TheVariants.{CodeTooLarge}
use Rattle.algebra.specs.Frames.{code_at, InSpan}
use Rattle.algebra.specs.Packets.{Bare, BecomesSeen, Conflicts}
use Rattle.algebra.specs.Rows.{row_at, ReducedForm}
use Rattle.elimination.specs.declared.fault.RowsFault.{RowsFault}
use Rattle.elimination.specs.declared.fault.RowsFault.TheVariants.{NotStarted, WrongSize, WrongLength, NoPacket, NotDetermined, NoMemory, Field}
use Rattle.elimination.specs.declared.heard.Heard.{Heard}
use Rattle.elimination.specs.declared.heard.Heard.TheVariants.{New, Spanned, Conflict}
use Rattle.elimination.specs.declared.table.Shape.{Shape}
use Rattle.elimination.specs.declared.table.Table.{Table}
use Rattle.elimination.specs.Reduction.{lists, rest_row, NoCoefficient, FirstCoefficient, multiple, with_row}
use Rattle.elimination.specs.Rows.{are_codes}

-- what a table holds: the size of its field, the numbers of packets and of symbols in each, and its rows by lead
pub record Held : Type 0 where
  pub size : ℕ
  pub packets : ℕ
  pub symbols : ℕ
  pub rows : List (List ℕ)

abbrev pub held : Table → Held
held t = record { size = t.q; packets = t.shape.packets; symbols = t.shape.symbols; rows = lists (vec_items t.rows) }

-- both sizes are 1 to 32
abbrev pub size_answer : ℕ → ℕ → Result (Unit {0}) RowsFault
size_answer n l = cond (nat_le 1 n && (nat_le n 32 && (nat_le 1 l && nat_le l 32))) (Ok tt) (Err WrongSize)

-- a shape has the sizes that it was made for
abbrev pub Shaped : ℕ → ℕ → Result Shape RowsFault → Type 0
Shaped n l (Ok s) = (size_answer n l ≡ Ok tt) × (s.packets ≡ n) × (s.symbols ≡ l)
Shaped n l (Err e) = size_answer n l ≡ Err e

-- a table without rows: each is zeros
abbrev pub empty_table : ℕ → ℕ → ℕ → Held
empty_table q n l = record { size = q; packets = n; symbols = l; rows = replicate n (replicate (n + l) 0) }

-- a table is built empty, for any sizes in their ranges, unless memory is wanting
abbrev pub Built : Ops → ℕ → ℕ → Result Table RowsFault → Type 0
Built o n l (Ok t) = (size_answer n l ≡ Ok tt) × (held t ≡ empty_table o.size n l)
Built o n l (Err e) = RefusedBy (size_answer n l) (λ e. e ≡ NoMemory) e

-- a frame for a table: refused first where the table was built for a field of another size, then by its length, then by its codes
abbrev pub frame_answer : Ops → Held → List ℕ → Result (Unit {0}) RowsFault
frame_answer o t f =
    cond (o.size == t.size) (cond (length f == t.packets + t.symbols) (cond (are_codes t.size f) (Ok tt) (Err (Field CodeTooLarge))) (Err WrongLength)) (Err NotStarted)

-- the row that a frame puts in with lead a
abbrev pub row_for : Ops → List (List ℕ) → List ℕ → ℕ → List ℕ
row_for o rows f a = multiple o (o.inverse (code_at (rest_row o rows f) a)) (rest_row o rows f)

-- a frame of which a coefficient is left is put in, with the first such coefficient as its lead
pub record PutIn (o : Ops) (rows : List (List ℕ)) (f : List ℕ) (a : ℕ) (after : List (List ℕ)) : Type 0 where
  pub first : FirstCoefficient (length rows) (rest_row o rows f) a
  pub rows_are : after ≡ with_row o rows a (row_for o rows f a)

-- a frame of which nothing is left leaves the rows as they are
pub record NothingNew (o : Ops) (rows : List (List ℕ)) (f : List ℕ) (after : List (List ℕ)) : Type 0 where
  pub none : NoCoefficient (length f) (rest_row o rows f)
  pub rows_are : after ≡ rows

-- so does one of which symbols are left and no coefficient
pub record Conflicting (o : Ops) (rows : List (List ℕ)) (f : List ℕ) (after : List (List ℕ)) : Type 0 where
  pub no_coefficient : NoCoefficient (length rows) (rest_row o rows f)
  pub symbol : (i : ℕ) × ((i < length f) × (0 < code_at (rest_row o rows f) i))
  pub rows_are : after ≡ rows

abbrev pub TakenIn : Ops → List (List ℕ) → List ℕ → Heard → List (List ℕ) → Type 0
TakenIn o rows f (New a) after = PutIn o rows f a after
TakenIn o rows f Spanned after = NothingNew o rows f after
TakenIn o rows f Conflict after = Conflicting o rows f after

-- a frame that shows packet a, counted from 0: the rows are then the reduced form of the rows before and the frame
pub record Shows (o : Ops) (t : Held) (f : List ℕ) (a : ℕ) (u : Held) : Type 0 where
  pub form : ReducedForm o t.packets t.symbols (f ∷ t.rows) u.rows
  pub shows : BecomesSeen o t.packets t.rows f a
  pub size : u.size ≡ t.size
  pub packets : u.packets ≡ t.packets
  pub symbols : u.symbols ≡ t.symbols

-- what becomes of a frame: it shows a packet, or is in the span, or conflicts with the rows; the latter two leave all as it was
abbrev pub Taken : Ops → Held → List ℕ → Heard → Held → Type 0
Taken o t f (New a) u = Shows o t f a u
Taken o t f Spanned u = InSpan o t.rows (code_at f) × (u ≡ t)
Taken o t f Conflict u = Conflicts o t.packets t.symbols t.rows f × (u ≡ t)

-- a table takes in every frame that is one for it
abbrev pub TakesIn : Ops → Held → List ℕ → Result Heard RowsFault → Held → Type 0
TakesIn o t f (Ok h) u = (frame_answer o t f ≡ Ok tt) × Taken o t f h u
TakesIn o t f (Err e) u = (frame_answer o t f ≡ Err e) × (u ≡ t)

-- the set of the first n packets that are seen: the code of a row at its lead, 1 or 0, is its packet's bit
unfoldable pub seen_set : List (List ℕ) → ℕ → ℕ
seen_set rows zero = 0
seen_set rows (suc n) = seen_set rows n + row_at rows n n * 2 ^ n

-- a packet by its number, counted from 1, and a buffer by its length: refused by the length first
abbrev pub packet_answer : Held → ℕ → ℕ → Result (Unit {0}) RowsFault
packet_answer t k len = cond (len == t.symbols) (cond (nat_le 1 k && nat_le k t.packets) (Ok tt) (Err NoPacket)) (Err WrongLength)

-- the symbols of the row of packet k
abbrev pub symbols_of : Held → ℕ → List ℕ
symbols_of t k = drop t.packets (slice_index_or t.rows (k - 1) [])

-- packet k is read off its row where that has no other coefficient
abbrev pub Fetched : Held → ℕ → List ℕ → Result (Unit {0}) RowsFault → List ℕ → Type 0
Fetched t k b (Ok _) c = (packet_answer t k (length b) ≡ Ok tt) × Bare t.packets t.rows (k - 1) × (c ≡ symbols_of t k)
Fetched t k b (Err e) c = RefusedBy (packet_answer t k (length b)) (λ e. (e ≡ NotDetermined) × (Bare t.packets t.rows (k - 1) → ⊥)) e × (c ≡ b)
