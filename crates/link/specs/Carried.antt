-- Slots as a link carries them: how many, how many are left, and the frame of the last one. Assumes nothing.
use Rattle.std.specs.Prelude.{◌≡◌, ℕ, List, [], Ok, Err, Result}
use Rattle.link.specs.declared.fault.LinkFault.{LinkFault}
use Rattle.link.specs.declared.slots.Slots.{Slots}
use Rattle.link.specs.Meanings.{Meaning}
use Rattle.link.specs.Calls.{send_answer, Taken}

-- the current frame
abbrev pub frame_of : Slots → List ℕ
frame_of s = s.frame.items

-- slots together with counts are a meaning
abbrev pub with_counts : Slots → List ℕ → Meaning
with_counts s counts = record { carried = s.carried; left = s.left; frame = frame_of s; counts = counts }

-- a send, the counts left out: a slot more, and a refusal leaves all as it was
abbrev pub SlotSent : Slots → List ℕ → Result (Unit {0}) LinkFault → Slots → Type 0
SlotSent v frame (Ok _) w = Taken (with_counts v []) frame (with_counts w [])
SlotSent v frame (Err e) w = (send_answer v.left frame ≡ Err e) × (w ≡ v)
