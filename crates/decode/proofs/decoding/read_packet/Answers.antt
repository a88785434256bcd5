use Rattle.std.proofs.Common.{sym, ap, ◌∙◌, subst, arith}
use Rattle.std.proofs.lemmas.List.{with_items_is}
use Rattle.std.specs.Bool.{then_some}
use Rattle.std.specs.Vec.{with_items}
use Rattle.relay.specs.States.{state}
use Rattle.decode.specs.Decoding.{ReadAs}
use Rattle.decode.proofs.Hearings.{read_as}
use Rattle.decode.proofs.decoding.read_packet.Goals as goal

pub returns : goal.returns
returns g c =
    let s = state g.F.Field.ops c.args.relay.now in
    let zeros = c.in_ok-buffer.ensures.items_if_clones_equal (λ y e. e) in
    let read = with_items c.in_ok-buffer.buffer c.fetch.new.buffer in
    subst (ReadAs s c.args.symbols c.args.packet) (sym (c.then_some.ensures ∙ ap (λ ok. then_some ok read) c.is_ok-read.ensures.value))
    (read_as s c.args.symbols c.args.packet c.fetch.result read (c.as_mut_slice.ensures.value ∙ zeros)
    (with_items_is c.in_ok-buffer.buffer c.fetch.new.buffer (omega arith)) c.fetch.ensures)
