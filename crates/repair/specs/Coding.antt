-- A coded sum of packets, and what is needed to rebuild a lost one. Assumes nothing.
use Rattle.std.specs.Prelude.{◌≡◌, ℕ, ◌<◌, List, [], ◌∷◌, map, length, Some, None, Ok, Err, Option, Result, slice_index, slice_index_or, slice_set}
use Rattle.std.specs.List.{range_with_len}
use Rattle.field.specs.Fields.{Ops}
use Rattle.algebra.specs.Frames.{Codes, Frame}
use Rattle.elimination.specs.Rows.{Subtractable}
use Rattle.elimination.specs.declared.fault.RowsFault.{RowsFault}
use Rattle.elimination.specs.declared.fault.RowsFault.TheVariants.{Field}
use Rattle.field.specs.declared.fault.FieldFault.TheVariants.{CodeTooLarge}
use Rattle.repair.specs.declared.coding.Term.{Term}

-- the coefficients of terms, and their packets
abbrev pub coefficients : {P : Type 0} → List (Term P) → List ℕ
coefficients ts = map (λ t. t.coefficient) ts

abbrev pub packets : {P : Type 0} → List (Term P) → List P
packets ts = map (λ t. t.packet) ts

-- the coded sum at one place: each coefficient times its packet's symbol there, summed
unfoldable pub coded_at : Ops → List ℕ → List (List ℕ) → ℕ → ℕ
coded_at o [] ps j = 0
coded_at o (c ∷ cs) [] j = 0
coded_at o (c ∷ cs) (p ∷ ps) j = o.sum (o.product c (slice_index p j)) (coded_at o cs ps j)

-- the coded sum of packets of four symbols
abbrev pub coded_row : Ops → List ℕ → List (List ℕ) → List ℕ
coded_row o cs ps = map (coded_at o cs ps) (range_with_len 0 4)

-- the row t plus f times the row s
abbrev pub plus_multiple : Ops → List ℕ → ℕ → List ℕ → List ℕ
plus_multiple o t f s = map (λ j. o.sum (slice_index t j) (o.product f (slice_index s j))) (range_with_len 0 (length t))

-- factor times row, four symbols
abbrev pub multiple : Ops → ℕ → List ℕ → List ℕ
multiple o f row = map (λ j. o.product f (slice_index row j)) (range_with_len 0 4)

-- a packet: four symbols, each a code
abbrev pub Packet : ℕ → List ℕ → Type 0
Packet q p = Frame q 4 p

-- coefficients and packets that can be sent: as many of the one as of the other, and codes throughout
pub record Sendable (q : ℕ) (cs : List ℕ) (ps : List (List ℕ)) : Type 0 where
  pub as_many : length cs ≡ length ps
  pub coefficients : Codes q cs
  pub packets : (k : ℕ) → k < length ps → Packet q (slice_index_or ps k [])

-- of what was sent, packet l was lost, every other arrived, and so did the coded sum, in which packet l takes part
pub record Arrived (o : Ops) (cs : List ℕ) (sent : List (List ℕ)) (l : ℕ) (received : List (Option (List ℕ))) (coded : List ℕ) : Type 0 where
  pub sendable : Sendable o.size cs sent
  pub within : l < length sent
  pub others : received ≡ slice_set (map Some sent) l None
  pub sum : coded ≡ coded_row o cs sent
  pub takes_part : 0 < slice_index cs l

-- where rows and a factor fit, the multiple is added
abbrev pub Added : Ops → List ℕ → ℕ → List ℕ → Result (Unit {0}) RowsFault → List ℕ → Type 0
Added o t f s r new = Subtractable o.size t f s → (r ≡ Ok tt) × (new ≡ plus_multiple o t f s)

-- it is refused exactly where a number is no code, for that alone, and then the target is as it was
abbrev pub RefusedForCodes : ℕ → List ℕ → ℕ → List ℕ → Result (Unit {0}) RowsFault → List ℕ → Type 0
RefusedForCodes q t f s (Ok _) new = Subtractable q t f s
RefusedForCodes q t f s (Err e) new = (e ≡ Field CodeTooLarge) × (new ≡ t)

-- what can be sent is coded
abbrev pub Coded : Ops → List ℕ → List (List ℕ) → Result (List ℕ) RowsFault → Type 0
Coded o cs ps r = Sendable o.size cs ps → r ≡ Ok (coded_row o cs ps)

-- a packet is scaled by any code
abbrev pub Scaled : Ops → ℕ → List ℕ → Result (List ℕ) RowsFault → Type 0
Scaled o f row r = f < o.size → Packet o.size row → r ≡ Ok (multiple o f row)

-- whatever was sent, the packet that was lost of it is the one rebuilt
abbrev pub Rebuilt : Ops → List ℕ → List (Option (List ℕ)) → List ℕ → Result (List ℕ) RowsFault → Type 0
Rebuilt o cs received coded r = (sent : List (List ℕ)) (l : ℕ) → Arrived o cs sent l received coded → r ≡ Ok (slice_index_or sent l [])
