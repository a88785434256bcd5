use Rattle.std.proofs.Common.{◌≡◌, true, map, take, is_some, vec_items}
use Rattle.relay.specs.States.{state}
use Rattle.decode.specs.Decoding.{frames_of_lines, Listed}
use Rattle.decode.proofs.decoding.hear_all.Given as goal

-- the first frames are heard, and the relay is still started
abbrev pub invariant-loop-frame : goal.invariant-loop-frame
invariant-loop-frame g l = record {
  started : is_some (state g.F.Field.ops l.relay) ≡ true;
  frames : frames_of_lines (vec_items l.lines) ≡ map vec_items (take l.frame-index l.frames);
  listed : Listed (state g.F.Field.ops l.initial.relay) (vec_items l.lines) (state g.F.Field.ops l.relay);
}
