use Rattle.std.proofs.Common.{◌+◌, ◌-◌, ◌≤◌, vec_items}
use Rattle.relay.specs.States.{state}
use Rattle.decode.specs.Decoding.{ReadOff}
use Rattle.decode.proofs.decoding.read_all.Given as goal

-- the packets before this one are read
abbrev pub invariant-loop-packet : goal.invariant-loop-packet
invariant-loop-packet g l = record {
  within : l.packet ≤ l.packets + 1;
  read : ReadOff (state g.F.Field.ops l.relay) l.symbols (vec_items l.read) (l.packet - 1);
}
