-- What a relay holds. Assumes nothing.
use Rattle.std.specs.Prelude.{ℕ, cond, List, Some, None, Option, ◌==◌}
use Rattle.field.specs.Fields.{Ops}
use Rattle.elimination.specs.Tables.{Held, held}
use Rattle.relay.specs.declared.Relay.{Relay}
use Rattle.relay.specs.declared.started.Started.{Started}

-- a started relay: the meaning of its field, and its table of rows
pub record State : Type 0 where
  pub ops : Ops
  pub table : Held

-- a relay started over a field for n packets of l symbols, with these rows
abbrev pub holding : Ops → ℕ → ℕ → List (List ℕ) → State
holding o n l rows = record { ops = o; table = record { size = o.size; packets = n; symbols = l; rows = rows } }

-- a field and a table: only one that was built for a field of that size counts as started
abbrev pub state_of : Ops → Held → Option State
state_of o t = cond (o.size == t.size) (Some (record { ops = o; table = t })) None

abbrev pub started_state : {F : Type 0} → (F → Ops) → Started F → Option State
started_state ops s = state_of (ops s.field) (held s.table)

-- none for an empty place
abbrev pub place_state : {F : Type 0} → (F → Ops) → Option (Started F) → Option State
place_state ops None = None
place_state ops (Some s) = started_state ops s

abbrev pub state : {F : Type 0} → (F → Ops) → Relay F → Option State
state ops r = place_state ops r.place
