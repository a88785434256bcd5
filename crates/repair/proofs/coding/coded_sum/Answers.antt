use Rattle.std.proofs.Common.{Ok, ap}
use Rattle.repair.proofs.Repairs.{terms_none, term_turn, terms_all}
use Rattle.repair.proofs.coding.coded_sum.Goals as goal

pub loop-term-init : goal.loop-term-init
loop-term-init g c = terms_none (g.F.Field.ops c.args.field.now) (g.met.F.Field.lawful c.args.field.now) c.args.terms.now

pub loop-term-preserved : goal.loop-term-preserved
loop-term-preserved g c =
    λ ok. (term_turn (g.F.Field.ops c.args.field.now) (g.met.F.Field.lawful c.args.field.now) c.args.terms.now ok
    c.loop-term.term-index c.loop-term.sum (c.loop-term.invariant ok) _ c.loop-term-test.true _ _ c.add_multiple.ensures.added).1

pub returns-in_err-add_multiple : goal.returns-in_err-add_multiple
returns-in_err-add_multiple g c ok =
    let done =
    term_turn (g.F.Field.ops c.args.field.now) (g.met.F.Field.lawful c.args.field.now) c.args.terms.now ok
    c.loop-term.term-index c.loop-term.sum (c.loop-term.invariant ok) _ c.loop-term-test.true _ _ c.in_err-add_multiple.ensures.added in
    absurd (cc (done.0))

pub returns : goal.returns
returns g c ok =
    ap Ok (terms_all (g.F.Field.ops c.args.field.now) (g.met.F.Field.lawful c.args.field.now) c.args.terms.now ok
    c.loop-term.term-index c.loop-term.sum (c.loop-term.invariant ok) c.loop-term-test.false)
