-- The number and the layer of each fault of a field. Assumes nothing.
use Rattle.faults.specs.declared.Refusal.{Refusal}
use Rattle.faults.specs.declared.Layer.TheVariants.{Field}
use Rattle.faults.specs.Refusals.{plain}
use Rattle.field.specs.declared.fault.FieldFault.{FieldFault}
use Rattle.field.specs.declared.fault.FieldFault.TheVariants.{CodeTooLarge, InverseOfZero}

-- 5: a code that is not below q; 6: the inverse of 0
abbrev pub field_refusal : FieldFault → Refusal
field_refusal CodeTooLarge = plain Field 5
field_refusal InverseOfZero = plain Field 6
