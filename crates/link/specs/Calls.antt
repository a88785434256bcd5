-- What a link's calls answer, and what they leave. Assumes nothing.
use Rattle.std.specs.Prelude.{◌≡◌, ℕ, ◌+◌, ◌-◌, Bool, cond, ◌&&◌, List, length, Ok, Err, Result, ◌==◌, nat_le, nat_lt, slice_index}
use Rattle.link.specs.declared.fault.LinkFault.{LinkFault}
use Rattle.link.specs.declared.fault.LinkFault.TheVariants.{WrongLength, NoSuchRelay, NoSlotLeft, NoCopy}
use Rattle.link.specs.Meanings.{Meaning}

-- a frame is refused outside 1 to 64 codes, and then where no slot is left
abbrev pub send_answer : ℕ → List ℕ → Result (Unit {0}) LinkFault
send_answer left frame = cond (nat_lt 0 (length frame) && nat_le (length frame) 64) (cond (nat_lt 0 left) (Ok tt) (Err NoSlotLeft)) (Err WrongLength)

-- a frame was sent: one slot more carried and one less left, and the frame is the current one; the counts are as the link likes
pub record Taken (v : Meaning) (frame : List ℕ) (w : Meaning) : Type 0 where
  pub accepted : send_answer v.left frame ≡ Ok tt
  pub one_more : w.carried ≡ v.carried + 1
  pub one_less : w.left + 1 ≡ v.left
  pub frame_is : w.frame ≡ frame

-- a send by its meaning before and after: a refusal leaves it as it was
abbrev pub Sent : Meaning → List ℕ → Result (Unit {0}) LinkFault → Meaning → Type 0
Sent v frame (Ok _) w = Taken v frame w
Sent v frame (Err e) w = (send_answer v.left frame ≡ Err e) × (w ≡ v)

-- relays are numbered from 1 to 8
abbrev pub is_relay : ℕ → Bool
is_relay relay = nat_lt 0 relay && nat_le relay 8

-- the place of a relay, counted from 0
abbrev pub relay_answer : ℕ → Result ℕ LinkFault
relay_answer relay = cond (is_relay relay) (Ok (relay - 1)) (Err NoSuchRelay)

-- the count for a relay
abbrev pub copies_answer : List ℕ → ℕ → Result ℕ LinkFault
copies_answer counts relay = cond (is_relay relay) (Ok (slice_index counts (relay - 1))) (Err NoSuchRelay)

-- a relay without a copy has nothing to read
abbrev pub some_copy : Result ℕ LinkFault → Result (Unit {0}) LinkFault
some_copy (Ok count) = cond (count == 0) (Err NoCopy) (Ok tt)
some_copy (Err e) = Err e

-- a buffer that is not as long as the frame is refused, then what copies refuses, and then a relay without a copy
abbrev pub read_answer : List ℕ → Result ℕ LinkFault → ℕ → Result (Unit {0}) LinkFault
read_answer frame copies n = cond (n == length frame) (some_copy copies) (Err WrongLength)

-- a read by the buffer before and after: the current frame, or what it was
abbrev pub FrameRead : List ℕ → Result ℕ LinkFault → List ℕ → Result (Unit {0}) LinkFault → List ℕ → Type 0
FrameRead frame copies b (Ok _) a = (read_answer frame copies (length b) ≡ Ok tt) × (a ≡ frame)
FrameRead frame copies b (Err e) a = (read_answer frame copies (length b) ≡ Err e) × (a ≡ b)

abbrev pub ReadInto : Meaning → ℕ → List ℕ → Result (Unit {0}) LinkFault → List ℕ → Type 0
ReadInto v relay = FrameRead v.frame (copies_answer v.counts relay)
