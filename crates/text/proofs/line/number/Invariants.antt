use Rattle.std.proofs.Common.{◌≡◌, ◌^◌, ◌<◌, take}
use Rattle.text.specs.Lines.{number_after}
use Rattle.text.proofs.line.number.Given as goal

-- the number that the bytes so far write
abbrev pub invariant-loop-byte : goal.invariant-loop-byte
invariant-loop-byte l = (l.number ≡ number_after 0 (take l.byte-index l.field)) × (l.number < 10 ^ l.byte-index)
