use Rattle.std.proofs.Common.{◌≡◌, ℕ, ◌<◌, [], length, get_or, vec_items, sym, ap, ◌∙◌, subst, le_refl, arith}
use Rattle.std.proofs.lemmas.List.{length-map}
use Rattle.algebra.specs.Frames.{code_at, Frame}
use Rattle.elimination.specs.Reduction.{lists}
use Rattle.elimination.proofs.Storing.{at_list, cleared_more, cleared_all}
use Rattle.elimination.proofs.Subtraction.{length_less}
use Rattle.elimination.proofs.reduction.insert.Goals as goal

pub clear-requires : goal.clear-requires
clear-requires g c =
    let o = g.F.Field.ops c.args.field.now in
    let before = c.args.table.now in
    let m = c.loop-old.old-index in
    let short : m < length c.loop-old.table = omega arith in
    let h : m < length (lists before) = subst (λ (n : ℕ). m < n) (sym (length-map before vec_items)) c.loop-old-test.true in
    record {
      old_frame = subst (Frame o.size (length c.args.row.now))
          (sym (c.loop-old.invariant.rest m (le_refl m)) ∙ at_list c.loop-old.table m c.old-item.result short) (c.requires.rows_frames m h);
      codes = c.requires.codes;
      wide = c.requires.wide;
    }

pub loop-old-preserved : goal.loop-old-preserved
loop-old-preserved g c =
    let short : c.loop-old.old-index < length c.loop-old.table = omega arith in
    cleared_more (g.F.Field.ops c.args.field.now) c.args.a c.args.row.now c.args.table.now c.loop-old.old-index c.loop-old.table c.old-item.result c.clear.new.old
    short c.loop-old.invariant c.clear.ensures

pub overwrite-requires : goal.overwrite-requires
overwrite-requires g c =
    let o = g.F.Field.ops c.args.field.now in
    let laws = g.met.F.Field.lawful c.args.field.now in
    let a = c.args.a in
    let before = c.args.table.now in
    let h : a < length before = subst (λ (n : ℕ). a < n) (length-map before vec_items) c.requires.within in
    let short : a < length c.loop-old.table = omega arith in
    let old = get_or (lists before) a [] in
    ap length (sym (at_list c.loop-old.table a c.index-table-a.result short) ∙ c.loop-old.invariant.done a (omega arith))
    ∙ length_less o laws old (code_at old a) c.args.row.now ∙ (c.requires.rows_frames a c.requires.within).long

pub returns : goal.returns
returns g c =
    let long : length c.loop-old.table ≡ length c.args.table.now = omega arith in
    cleared_all (g.F.Field.ops c.args.field.now) c.args.a c.args.row.now c.args.table.now c.loop-old.old-index c.loop-old.table c.overwrite.new.old
    long c.loop-old-test.false c.loop-old.invariant c.overwrite.ensures
