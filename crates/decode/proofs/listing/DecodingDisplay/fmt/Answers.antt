use Rattle.std.proofs.Common.{◌≡◌, ◌<◌, ◌+◌, None, length, vec_items, get_or, sym, ap, ap₂, ◌∙◌, arith, rules}
use Rattle.std.proofs.lemmas.Grind.{common_steps}
use Rattle.std.proofs.lemmas.List.{get_or_read}
use Rattle.std.proofs.lemmas.List.FromFn.{get_or-enumerate_from, length-enumerate_from}
use Rattle.std.specs.List.{enumerate_from}
use Rattle.decode.specs.Listing.{packet_text}
use Rattle.decode.proofs.Writing.{more_written}
use Rattle.decode.proofs.listing.DecodingDisplay.fmt.Goals as goal

pub loop-k-preserved : goal.loop-k-preserved
loop-k-preserved g c = λ p.
    let packets = vec_items c.args.self.now.packets in
    let k = c.loop-k.k in
    let all = c.deref-symbols-items.ensures.value in
    let here : k < length packets = omega (arith, c.loop-k-test.true, ap length all) in
    let packet : c.symbols-item.result ≡ get_or packets k None =
    get_or_read packets k c.symbols-item.result here (c.symbols-item.is ∙ ap (λ ps. get_or ps k c.symbols-item.result) all) None in
    let next : k + 1 ≡ 1 + k = omega arith in
    let before = c.loop-k.invariant p in
    more_written g.W.Write.write_str_gives packet_text (enumerate_from 1 packets) k (0, None)
    (omega (arith, here, length-enumerate_from 1 packets))
    (ap packet_text (ap₂ (λ n q. (n, q)) next packet ∙ sym (get_or-enumerate_from 1 packets k (0, None) here)))
    before (search rules)

pub returns-clause-writes : goal.returns-clause-writes
returns-clause-writes g c = grind (arith, common_steps, length-enumerate_from)
