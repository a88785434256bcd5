use Rattle.std.proofs.Common.{◌≡◌, ◌++◌, vec_items}
use Rattle.std.specs.Slice.Iter.{chunks_exact_rest, chunks_exact_size}
use Rattle.elimination.specs.Reduction.{lists}
use Rattle.decode.specs.Recordings.{frames_of}
use Rattle.decode.proofs.recording.cut.Given as goal

abbrev pub invariant-loop-frame : goal.invariant-loop-frame
invariant-loop-frame l = record {
  size : chunks_exact_size l.frame-iterator ≡ l.width;
  frames : frames_of l.codes l.width ≡ lists (vec_items l.frames) ++ frames_of (chunks_exact_rest l.frame-iterator) l.width;
}
