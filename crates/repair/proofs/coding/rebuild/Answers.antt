use Rattle.std.proofs.Common.{◌+◌, sym, subst₂}
use Rattle.elimination.proofs.Subtraction.{never_refused}
use Rattle.repair.proofs.Repairs.{TakingTerms, terms_whole, came_fit, came_turn, lost_turn, end_inverse, end_divided}
use Rattle.repair.proofs.coding.rebuild.Goals as goal
use Rattle.repair.proofs.coding.rebuild.Goals.{in-Some+in_ok-subtract_multiple-in-Some, in-None}

pub loop-term-init : goal.loop-term-init
loop-term-init g c =
    terms_whole (g.F.Field.ops c.args.field.now) (g.met.F.Field.lawful c.args.field.now) c.args.received.now c.args.coded.now

pub loop-term-preserved : goal.loop-term-preserved
loop-term-preserved g c =
    let o = g.F.Field.ops c.args.field.now in
    let laws = g.met.F.Field.lawful c.args.field.now in
    let received = c.args.received.now in
    let coded = c.args.coded.now in
    let k = c.loop-term.term-index in
    elim c.match-term.branch [
      | in-Some+in_ok-subtract_multiple-in-Some w ↦
          λ sent l here. subst₂ (TakingTerms o laws received coded sent l here (k + 1)) (sym w.lost-is) (sym w.rest-is)
          (came_turn o laws received coded sent l here k c.loop-term.lost c.loop-term.rest (c.loop-term.invariant sent l here) _ c.loop-term-test.true
          w.in-Some.packet w.subtract_multiple.new.target w.in-Some.is w.in_ok-subtract_multiple-in-Some.ensures.after)
      | in-None w ↦
          λ sent l here. subst₂ (TakingTerms o laws received coded sent l here (k + 1)) (sym w.lost-is) (sym w.rest-is)
          (lost_turn o laws received coded sent l here k c.loop-term.lost c.loop-term.rest (c.loop-term.invariant sent l here) _ c.loop-term-test.true w.in-None.is)
    ]

pub returns-in_err-subtract_multiple-in-Some : goal.returns-in_err-subtract_multiple-in-Some
returns-in_err-subtract_multiple-in-Some g c sent l here =
    let o = g.F.Field.ops c.args.field.now in
    let laws = g.met.F.Field.lawful c.args.field.now in
    absurd (never_refused o.size c.loop-term.rest _ c.in-Some.packet c.in_err-subtract_multiple-in-Some.field-0.0
    (came_fit o laws c.args.received.now c.args.coded.now sent l here c.loop-term.term-index c.loop-term.lost c.loop-term.rest
    (c.loop-term.invariant sent l here) _ c.loop-term-test.true c.in-Some.packet c.in-Some.is)
    c.in_err-subtract_multiple-in-Some.ensures.answer)

pub returns-in_err-inverse : goal.returns-in_err-inverse
returns-in_err-inverse g c sent l here =
    let there =
    end_inverse (g.F.Field.ops c.args.field.now) (g.met.F.Field.lawful c.args.field.now) c.args.received.now c.args.coded.now sent l here
    c.loop-term.term-index c.loop-term.lost c.loop-term.rest (c.loop-term.invariant sent l here) c.loop-term-test.false in
    let refused = c.in_err-inverse.ensures in
    absurd (cc (there, refused))

pub returns : goal.returns
returns g c sent l here =
    end_divided (g.F.Field.ops c.args.field.now) (g.met.F.Field.lawful c.args.field.now) c.args.received.now c.args.coded.now sent l here
    c.loop-term.term-index c.loop-term.lost c.loop-term.rest (c.loop-term.invariant sent l here) c.loop-term-test.false
    c.in_ok-inverse.inverse c.scaled.result c.in_ok-inverse.ensures c.scaled.ensures
