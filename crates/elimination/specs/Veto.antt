-- The code that a relay vetoes at a packet. Assumes nothing.
use Rattle.std.specs.Prelude.{ℕ, cond, ◌&&◌, List, length, Ok, Err, Result, ◌==◌}
use Rattle.algebra.specs.Frames.{code_at, summed}
use Rattle.field.specs.Fields.{Ops}
use Rattle.field.specs.declared.fault.FieldFault.TheVariants.{CodeTooLarge}
use Rattle.elimination.specs.declared.fault.RowsFault.{RowsFault}
use Rattle.elimination.specs.declared.fault.RowsFault.TheVariants.{WrongLength, Field}
use Rattle.elimination.specs.Rows.{are_codes}

-- the sum, over the packets before it, of the frame's coefficient times the code that the row with that lead has at the packet
abbrev pub veto : Ops → List ℕ → List ℕ → ℕ
veto o coefficients column = summed o (length coefficients) (λ m. o.product (code_at coefficients m) (code_at column m))

-- slices of two lengths are refused first, then a number that is no code
abbrev pub veto_answer : Ops → List ℕ → List ℕ → Result ℕ RowsFault
veto_answer o a b =
    cond (length b == length a) (cond (are_codes o.size a && are_codes o.size b) (Ok (veto o a b)) (Err (Field CodeTooLarge))) (Err WrongLength)
