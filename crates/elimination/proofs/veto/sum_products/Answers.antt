use Rattle.std.proofs.Common.{length}
use Rattle.std.proofs.lemmas.List.{length_push}
use Rattle.std.proofs.lemmas.Slice.Zip.{zip_turn}
use Rattle.elimination.proofs.Vetoing.{summed_none, summed_answered}
use Rattle.elimination.proofs.veto.sum_products.Goals as goal

pub loop-coefficient-init : goal.loop-coefficient-init
loop-coefficient-init g c =
    summed_none (g.F.Field.ops c.args.field.now) c.args.coefficients.now c.args.column.now (g.met.F.Field.lawful c.args.field.now)

pub loop-coefficient-preserved : goal.loop-coefficient-preserved
loop-coefficient-preserved g c =
    let o = g.F.Field.ops c.args.field.now in
    let laws = g.met.F.Field.lawful c.args.field.now in
    let a = c.args.coefficients.now in
    let b = c.args.column.now in
    let i = length c.loop-coefficient.yielded in
    let t = zip_turn a b c.loop-coefficient.yielded c.into_iter-coefficient-iterator.result c.loop-coefficient.coefficient-iterator c.next.new.self _ (cc) (cc) c.loop-coefficient.yielded_by _ c.in-Some.is c.next.ensures.steps in
    rw length_push
    (summed_answered o a b laws i c.loop-coefficient.sum c.unwrap-product.result c.unwrap-sum.result (c.requires.coefficients i t.0) (c.requires.column i t.1)
    c.loop-coefficient.invariant (cc (t.2 0, t.3 0)) (cc))
