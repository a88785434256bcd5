use Rattle.std.proofs.Common.{vec_items, sym, arith, rules, tests}
use Rattle.std.proofs.lemmas.List.{length-take-le}
use Rattle.std.proofs.lemmas.Iterator.{cases_from_all, YieldsList-from_slice}
use Rattle.std.proofs.lemmas.Iterator.Consumers.{YieldsList-from_enumerate}
use Rattle.elimination.proofs.Tabling.{read, NoOther, Another, bare_cases}
use Rattle.elimination.proofs.table.Table.is_bare.Goals as goal

pub bounds-row-m : goal.bounds-row-m
bounds-row-m c =
    let r = read (vec_items c.args.self.now.rows) c.args.self.now.sound c.args.m c.requires c.index.ensures _ c.as_slice-row.ensures.value in
    omega (arith, r.long)

pub slice_bounds-iter-end : goal.slice_bounds-iter-end
slice_bounds-iter-end c =
    let r = read (vec_items c.args.self.now.rows) c.args.self.now.sound c.args.m c.requires c.index.ensures _ c.as_slice-row.ensures.value in
    sym (length-take-le c.args.self.now.shape.packets c.as_slice-row.result.now (omega (arith, r.long)))

pub returns-then-row-m-eq1 : goal.returns-then-row-m-eq1
returns-then-row-m-eq1 c =
    let m = c.args.m in
    let r = read (vec_items c.args.self.now.rows) c.args.self.now.sound c.args.m c.requires c.index.ensures _ c.as_slice-row.ensures.value in
    bare_cases r c.if-row-m-eq1.true c.all.result
    (cases_from_all _ _ _ (NoOther m) (Another m) c.all.ensures.ran (YieldsList-from_enumerate (YieldsList-from_slice _ cc) cc) (λ x q k. search (rules, tests)) (λ x q k. search (rules, tests)))
