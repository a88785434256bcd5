use Rattle.std.proofs.Common.{◌≡◌, ◌+◌, ◌∷◌, true, false, [], take, drop, rules, tests}
use Rattle.std.specs.Option.{MatchOption}
use Rattle.std.proofs.lemmas.Iterator.{IsFirst-from_position}
use Rattle.std.proofs.lemmas.List.{take_rest}
use Rattle.std.proofs.lemmas.Option.{MatchOption-at_some, MatchOption-at_none}
use Rattle.text.specs.Cuts.{lines_of}
use Rattle.text.proofs.Cutting.{pairs_yielded, is_end, cut_at}
use Rattle.text.proofs.cut.cut_line.Goals as goal
use Rattle.text.proofs.cut.cut_line.Goals.{After-position}

cut : (c : After-position) → MatchOption c.position.result (lines_of c.args.text.now ≡ c.args.text.now ∷ []) (λ i. lines_of c.args.text.now ≡ take i c.args.text.now ∷ lines_of (drop (i + 2) c.args.text.now))
cut c =
    cut_at c.args.text.now c.requires c.position.result
    (IsFirst-from_position _ _ c.position.result (λ p. is_end p ≡ true) (λ p. is_end p ≡ false) c.position.ensures.ran (pairs_yielded c.windows.result c.args.text.now c.windows.ensures.rest c.windows.ensures.size) (λ x q k. search (rules, tests)) (λ x q k. search (rules, tests)))

pub returns-in-Some-clause-lines : goal.returns-in-Some-clause-lines
returns-in-Some-clause-lines c = rw (take_rest c.args.text.now (c.in-Some.end + 2)) (MatchOption-at_some _ _ c.in-Some.end c.in-Some.is (cut (goal.at.returns-in-Some-clause-lines c).After-position))

pub returns-in-None-clause-lines : goal.returns-in-None-clause-lines
unfolding lines_of
returns-in-None-clause-lines c = MatchOption-at_none _ _ c.in-None.is (cut (goal.at.returns-in-None-clause-lines c).After-position)
