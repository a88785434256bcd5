use Rattle.std.proofs.Common.{◌≡◌, length, sym, subst, vec_items, arith}
use Rattle.std.proofs.lemmas.List.{length-map, length_push}
use Rattle.std.proofs.lemmas.Slice.Zip.{zip_turn, zip_end}
use Rattle.elimination.specs.Reduction.{lists}
use Rattle.elimination.proofs.Remainder.{Taken, read_turn, taken_none, taken_fit, taken_more, taken_all}
use Rattle.elimination.proofs.reduction.reduce.Goals as goal

pub loop-row-init : goal.loop-row-init
loop-row-init g c =
    let o = g.F.Field.ops c.args.field.now in
    let laws = g.met.F.Field.lawful c.args.field.now in
    let rows = lists c.args.table.now in
    subst (Taken o laws rows c.args.frame.now 0) (sym c.copy_from_slice.ensures.after) (taken_none o laws rows c.args.frame.now c.args.rest.now c.requires)

pub subtract_codes-requires : goal.subtract_codes-requires
subtract_codes-requires g c =
    let o = g.F.Field.ops c.args.field.now in
    let laws = g.met.F.Field.lawful c.args.field.now in
    let rows = lists c.args.table.now in
    let m = length c.loop-row.yielded in
    let read = zip_turn c.args.table.now c.args.frame.now c.loop-row.yielded c.into_iter-row-iterator.result c.loop-row.row-iterator c.next.new.self _ (cc) (cc) c.loop-row.yielded_by _ c.in-Some.is c.next.ensures.steps in
    let turn = read_turn c.args.table.now c.args.frame.now m c.in-Some.row.now c.as_slice.result.now c.in-Some.factor.now read c.as_slice.ensures.value in
    taken_fit o laws rows c.args.frame.now c.args.rest.now c.requires m c.loop-row.rest c.as_slice.result.now c.in-Some.factor.now turn c.loop-row.invariant

pub loop-row-preserved : goal.loop-row-preserved
loop-row-preserved g c =
    let o = g.F.Field.ops c.args.field.now in
    let laws = g.met.F.Field.lawful c.args.field.now in
    let rows = lists c.args.table.now in
    let m = length c.loop-row.yielded in
    let read = zip_turn c.args.table.now c.args.frame.now c.loop-row.yielded c.into_iter-row-iterator.result c.loop-row.row-iterator c.next.new.self _ (cc) (cc) c.loop-row.yielded_by _ c.in-Some.is c.next.ensures.steps in
    let turn = read_turn c.args.table.now c.args.frame.now m c.in-Some.row.now c.as_slice.result.now c.in-Some.factor.now read c.as_slice.ensures.value in
    rw length_push
    (taken_more o laws rows c.args.frame.now c.args.rest.now c.requires m c.loop-row.rest c.subtract_codes.new.target c.as_slice.result.now c.in-Some.factor.now turn
    c.loop-row.invariant c.subtract_codes.ensures.after c.subtract_codes.ensures.codes)

pub returns : goal.returns
returns g c =
    let o = g.F.Field.ops c.args.field.now in
    let laws = g.met.F.Field.lawful c.args.field.now in
    let rows = lists c.args.table.now in
    let end = zip_end c.args.table.now c.args.frame.now c.loop-row.yielded c.into_iter-row-iterator.result c.loop-row.row-iterator c.next.new.self _ (cc) (cc) c.loop-row.yielded_by c.in-None.is c.next.ensures.steps in
    let all : length c.loop-row.yielded ≡ length rows = omega (arith, end, length-map c.args.table.now vec_items, c.requires.fewer) in
    record {
      value = taken_all o laws rows c.args.frame.now c.args.rest.now c.requires (length c.loop-row.yielded) c.loop-row.rest all c.loop-row.invariant;
      codes = c.loop-row.invariant.codes;
    }
