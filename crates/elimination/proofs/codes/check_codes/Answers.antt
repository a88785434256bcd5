use Rattle.std.proofs.Common.{◌≡◌, true, ltb, sym, ◌∙◌, rules, tests}
use Rattle.std.proofs.lemmas.Iterator.{YieldsList-from_slice}
use Rattle.std.proofs.lemmas.Iterator.Search.{all_from_yields_List}
use Rattle.elimination.specs.Rows.{are_codes}
use Rattle.elimination.proofs.codes.check_codes.Goals as goal

pub returns : goal.returns
returns c =
    let q = c.args.q in
    let row = c.args.row.now in
    let e : are_codes q row ≡ true =
    sym (all_from_yields_List (λ x. ltb x q) _ _ c.all.result c.all.ensures.ran (YieldsList-from_slice row cc) (λ x b p k. search (rules, tests))) ∙ c.if-not-all.false in
    search rules
