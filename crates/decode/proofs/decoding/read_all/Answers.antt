use Rattle.std.proofs.Common.{◌≡◌, ◌-◌, [], ◌∷◌, ◌++◌, vec_items, ap, subst, subst₂, sym, arith}
use Rattle.relay.specs.States.{state}
use Rattle.decode.specs.Decoding.{ReadOff}
use Rattle.decode.proofs.Hearings.{read_more}
use Rattle.decode.proofs.decoding.read_all.Goals as goal
use Rattle.decode.proofs.decoding.read_all.Goals.{else-loop-packet-test, then-loop-packet-test+in_ok-read_packet+in_ok-push+else-packet-packets}

pub returns : goal.returns
returns g c =
    let s = state g.F.Field.ops c.args.relay.now in
    let l = c.args.symbols in
    let k = c.loop-packet.packet in
    let before = c.loop-packet.invariant in
    elim c.loop-packet-test.branch [
      | else-loop-packet-test w ↦
          let none : k - 1 ≡ c.args.packets = omega arith in
          subst₂ (ReadOff s l) (sym (ap vec_items w.read-is)) none before.read
      | then-loop-packet-test+in_ok-read_packet+in_ok-push+else-packet-packets w ↦
          let last : k ≡ c.args.packets = omega arith in
          let all : vec_items c.loop-packet-test.read ≡ vec_items c.loop-packet.read ++ (w.in_ok-read_packet.field-0 ∷ []) =
          subst (λ v. vec_items v ≡ vec_items c.loop-packet.read ++ (w.in_ok-read_packet.field-0 ∷ [])) (sym w.read-is) w.in_ok-push.ensures.items in
          read_more s l (vec_items c.loop-packet.read) k c.args.packets w.in_ok-read_packet.field-0 all c.loop-packet.auto.packet last before.read w.in_ok-read_packet.ensures
    ]
