-- A whole load with its second packet lost. Assumes nothing.
use Rattle.std.specs.Prelude.{◌≡◌, ℕ, ◌<◌, List, [], Ok, Result, slice_index, slice_index_or}
use Rattle.field.specs.Fields.{Ops}
use Rattle.elimination.specs.declared.fault.RowsFault.{RowsFault}
use Rattle.repair.specs.Coding.{Sendable, coded_row}
use Rattle.repair.specs.declared.coding.Repaired.{Repaired}

-- the packet rebuilt is the one that was sent, whenever it takes part in the coded sum
abbrev pub Survived : Ops → List ℕ → List (List ℕ) → Result Repaired RowsFault → Type 0
Survived o cs ps r =
    Sendable o.size cs ps → 0 < slice_index cs 1 → r ≡ Ok (record { coded = coded_row o cs ps; rebuilt = slice_index_or ps 1 [] })
