use Rattle.std.proofs.Common.{sym, ◌∙◌, arith, rules}
use Rattle.std.proofs.lemmas.List.{ext_get_or}
use Rattle.link_tests.proofs.all_copies.Goals as goal

-- each of the eight is the count at its place
pub returns : goal.returns
returns g c =
    let items = c.from_fn.ensures.items in
    let eight = (g.met.L.Link.lawful c.args.link.now).eight in
    ext_get_or 0 _ _ (items.long ∙ sym eight) (λ k h. let at = items.at k 0 (omega (arith, items.long)) in search rules)
