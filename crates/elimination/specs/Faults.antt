-- The number and the layer of each fault of rows. Assumes nothing.
use Rattle.faults.specs.declared.Refusal.{Refusal}
use Rattle.faults.specs.declared.Layer.TheVariants.{Rows}
use Rattle.faults.specs.Refusals.{plain}
use Rattle.field.specs.Faults.{field_refusal}
use Rattle.elimination.specs.declared.fault.RowsFault.{RowsFault}
use Rattle.elimination.specs.declared.fault.RowsFault.TheVariants.{NotStarted, WrongSize, WrongLength, NoPacket, Conflict, NotDetermined, NoMemory, Field}

-- 1: not started; 2: a size outside its range; 4: a wrong length; 8: no such packet; 16: a conflicting frame; 17: a packet that
-- is not determined; want of memory has no number of its own and is told as 0; what the field refused is told as the field tells it
abbrev pub rows_refusal : RowsFault → Refusal
rows_refusal NotStarted = plain Rows 1
rows_refusal WrongSize = plain Rows 2
rows_refusal WrongLength = plain Rows 4
rows_refusal NoPacket = plain Rows 8
rows_refusal Conflict = plain Rows 16
rows_refusal NotDetermined = plain Rows 17
rows_refusal NoMemory = plain Rows 0
rows_refusal (Field fault) = field_refusal fault
