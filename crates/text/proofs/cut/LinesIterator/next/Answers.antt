use Rattle.std.proofs.Common.{◌≡◌, [], length, sym, ap, ◌∙◌, eqb-true}
use Rattle.std.proofs.lemmas.List.{nil_from_length}
use Rattle.text.specs.Cuts.{lines_of}
use Rattle.text.proofs.cut.LinesIterator.next.Goals as goal

-- nothing is left of an empty text
pub returns-then-is_empty-clause-steps : goal.returns-then-is_empty-clause-steps
unfolding lines_of
returns-then-is_empty-clause-steps c =
    let rest = c.args.self.now.rest.now in
    let none : rest ≡ [] = nil_from_length rest (eqb-true (length rest) 0 (sym c.is_empty.ensures ∙ c.if-is_empty.true)) in
    let e = ap lines_of none in
    (e, e)
