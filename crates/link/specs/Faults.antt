-- The number and the layer of each fault of a link. Assumes nothing.
use Rattle.faults.specs.declared.Layer.TheVariants.{Link}
use Rattle.faults.specs.declared.Refusal.{Refusal}
use Rattle.faults.specs.Refusals.{plain}
use Rattle.link.specs.declared.fault.LinkFault.{LinkFault}
use Rattle.link.specs.declared.fault.LinkFault.TheVariants.{WrongLength, NoSuchRelay, NoSlotLeft, NoCopy}

-- 4: a frame or a buffer of the wrong length; 7: no such relay; 13: no slot left; 15: no copy for this relay
abbrev pub link_refusal : LinkFault → Refusal
link_refusal WrongLength = plain Link 4
link_refusal NoSuchRelay = plain Link 7
link_refusal NoSlotLeft = plain Link 13
link_refusal NoCopy = plain Link 15
