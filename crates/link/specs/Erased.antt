-- The erasing layer. Assumes nothing.
use Rattle.std.specs.Prelude.{ℕ, ◌-◌, Bool, cond, ◌&&◌, List, length, ◌==◌, slice_index}
use Rattle.link.specs.declared.fault.LinkFault.{LinkFault}
use Rattle.link.specs.declared.fault.LinkFault.TheVariants.{WrongLength, NoCopy}
use Rattle.link.specs.Meanings.{Meaning}
use Rattle.link.specs.Calls.{is_relay}
use Rattle.link.specs.Counts.{erases, erased_counts}

-- a layer has the slots and the frame of the link that it holds, and its counts but for those that the periods erase
abbrev pub erased : List ℕ → Meaning → Meaning
erased periods m = record { carried = m.carried; left = m.left; frame = m.frame; counts = erased_counts periods m.carried m.counts }

-- the copies for a relay are erased
abbrev pub erased_for : List ℕ → ℕ → ℕ → Bool
erased_for periods t relay = is_relay relay && erases (slice_index periods (relay - 1)) t

-- why a relay without a copy is refused a frame
abbrev pub nothing_to_read : List ℕ → ℕ → LinkFault
nothing_to_read frame n = cond (n == length frame) NoCopy WrongLength
