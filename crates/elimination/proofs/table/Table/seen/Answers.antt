use Rattle.std.proofs.Common.{◌<◌, get_or, length, vec_items, refl, ap, ◌∙◌, inl, inr, arith, lit<}
use Rattle.std.proofs.lemmas.List.{get_or_read}
use Rattle.elimination.specs.Reduction.{lists}
use Rattle.elimination.specs.Tables.{seen_set}
use Rattle.elimination.proofs.Sets.{counted_turn}
use Rattle.elimination.proofs.Tabling.{read}
use Rattle.elimination.proofs.table.Table.seen.Goals as goal
use Rattle.elimination.proofs.table.Table.seen.Goals.{then-index-ne0, else-index-ne0}

pub loop-m-init : goal.loop-m-init
unfolding seen_set
loop-m-init c = (refl, lit< tt)

pub index-requires : goal.index-requires
index-requires c =
    let t = c.args.self.now in
    let m = c.loop-m.m in
    let v = c.row-item.result in
    let within : m < t.shape.packets = omega (arith, c.loop-m-test.true, c.deref-row-items.ensures.len, t.tall) in
    let r = read (vec_items t.rows) t.sound m within (c.row-item.is ∙ ap (λ rows. get_or rows m v) c.deref-row-items.ensures.value) _ refl in
    omega (arith, r.long, within, v.ok.0)

pub loop-m-preserved : goal.loop-m-preserved
loop-m-preserved c =
    let t = c.args.self.now in
    let m = c.loop-m.m in
    let v = c.row-item.result in
    let x = c.index.result.now in
    let within : m < t.shape.packets = omega (arith, c.loop-m-test.true, c.deref-row-items.ensures.len, t.tall) in
    let r = read (vec_items t.rows) t.sound m within (c.row-item.is ∙ ap (λ rows. get_or rows m v) c.deref-row-items.ensures.value) _ refl in
    let wide : m < length (vec_items v) = omega (arith, r.long, within) in
    counted_turn t.q t.shape.packets t.shape.symbols (lists (vec_items t.rows)) m c.loop-m.seen c.if-index-ne0.seen x t.sound within t.shape.few_packets c.loop-m.invariant
    (get_or_read (vec_items v) m x wide c.index.ensures 0 ∙ ap (λ row. get_or row m 0) r.is)
    (elim c.if-index-ne0.branch [ then-index-ne0 w ↦ inl (w.if-index-ne0.true, w.seen-is) | else-index-ne0 w ↦ inr (w.if-index-ne0.false, w.seen-is) ])
