use Rattle.std.proofs.Common.{◌++◌, vec_items, append-nil, sym, ap, ◌∙◌, arith}
use Rattle.std.specs.Slice.Iter.{chunks_exact_rest}
use Rattle.elimination.specs.Reduction.{lists}
use Rattle.decode.proofs.Cutting.{frames_none}
use Rattle.decode.proofs.recording.cut.Goals as goal

pub returns : goal.returns
returns c =
    let frames = lists (vec_items c.loop-frame.frames) in
    let before = c.loop-frame.invariant in
    let none = frames_none (chunks_exact_rest c.loop-frame.frame-iterator) c.args.width (omega (arith, c.in-None.ensures.steps.1.0, before.size)) in
    sym (before.frames ∙ ap (λ xs. frames ++ xs) none ∙ append-nil frames)
