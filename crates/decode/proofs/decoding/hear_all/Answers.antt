use Rattle.std.proofs.Common.{◌≡◌, [], ◌∷◌, ◌++◌, vec_items, sym, ap, ◌∙◌, ap₂, subst}
use Rattle.std.proofs.lemmas.List.{map_push, map_more}
use Rattle.relay.specs.States.{state}
use Rattle.decode.specs.declared.decoding.Line.{Line}
use Rattle.decode.specs.Decoding.{Listed, frames_of_lines}
use Rattle.decode.proofs.Hearings.{still, listed_more}
use Rattle.decode.proofs.decoding.hear_all.Goals as goal

pub loop-frame-preserved : goal.loop-frame-preserved
loop-frame-preserved g c =
    let ops = g.F.Field.ops in
    let s = state ops c.args.relay.now in
    let m = state ops c.loop-frame.relay in
    let t = state ops c.hear-answer.new.self in
    let frames = c.args.frames.now in
    let lines = vec_items c.loop-frame.lines in
    let frame = c.as_slice-frame.result in
    let line : Line = record { frame = frame; answer = c.hear-answer.result; seen = c.unwrap-seen.result } in
    let pushed : vec_items c.push.new.self ≡ lines ++ (line ∷ []) = c.in_ok-push.ensures.items in
    record {
      started = still m frame.now c.hear-answer.result t c.loop-frame.invariant.started c.hear-answer.ensures;
      frames = ap frames_of_lines pushed ∙ map_push (λ (x : Line). x.frame.now) lines line
          ∙ ap₂ (λ xs x. xs ++ (x ∷ [])) c.loop-frame.invariant.frames (c.as_slice-frame.ensures.value ∙ ap vec_items c.frame-item.is)
          ∙ sym (map_more vec_items frames c.loop-frame.frame-index c.frame-item.result c.loop-frame-test.true);
      listed = subst (λ xs. Listed s xs t) (sym pushed)
          (listed_more s lines m line t c.loop-frame.invariant.listed c.hear-answer.ensures (sym c.unwrap-seen.ensures ∙ c.seen.ensures));
    }
