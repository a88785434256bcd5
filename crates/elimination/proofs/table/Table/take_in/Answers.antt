use Rattle.std.proofs.Common.{◌∙◌, refl, arith}
use Rattle.std.proofs.lemmas.List.{length-take-le}
use Rattle.elimination.proofs.Taking.{reducible, nothing_new, in_conflict, can_insert, sound_with, put_in, shows}
use Rattle.elimination.proofs.table.Table.take_in.Goals as goal

pub new_row-requires : goal.new_row-requires
new_row-requires g c =
    reducible (g.met.F.Field.lawful c.args.field.now) c.args.self.now c.args.frame.now c.requires.field c.requires.frame c.as_slice.ensures.value _
    (length-take-le _ _ (omega arith) ∙ omega (arith, c.requires.frame.long))

pub returns-then-all_zero : goal.returns-then-all_zero
returns-then-all_zero g c =
    let spanned = nothing_new (g.met.F.Field.lawful c.args.field.now) c.args.self.now c.args.frame.now c.requires.field c.requires.frame c.as_slice.ensures.value
    c.in_default.ensures c.if-all_zero.ensures in
    record { rows = spanned.0; size = refl; shape = refl; taken = (spanned.1, refl) }

pub returns-else-all_zero : goal.returns-else-all_zero
returns-else-all_zero g c =
    let conflict = in_conflict (g.met.F.Field.lawful c.args.field.now) c.args.self.now c.args.frame.now c.requires.field c.requires.frame c.as_slice.ensures.value
    c.in_default.ensures c.if-all_zero.ensures in
    record { rows = conflict.0; size = refl; shape = refl; taken = (conflict.1, refl) }

pub insert-requires : goal.insert-requires
insert-requires g c =
    can_insert (g.met.F.Field.lawful c.args.field.now) c.args.self.now c.args.frame.now c.requires.field c.requires.frame c.as_slice.ensures.value c.in-Some.ensures
    c.as_mut_slice.ensures.value

pub invariant_of-self : goal.invariant_of-self
invariant_of-self g c = record {
  tall = c.args.self.now.tall;
  sound = ∣ sound_with (g.met.F.Field.lawful c.args.field.now) c.args.self.now c.args.frame.now c.requires.field c.requires.frame c.as_slice.ensures.value c.in-Some.ensures
      c.as_mut_slice.ensures.value c.insert.new.table c.insert.ensures ∣₁;
}

pub returns : goal.returns
returns g c = record {
  rows = put_in (g.met.F.Field.lawful c.args.field.now) c.args.self.now c.args.frame.now c.requires.field c.requires.frame c.as_slice.ensures.value c.in-Some.ensures
      c.as_mut_slice.ensures.value c.insert.new.table c.insert.ensures;
  size = refl;
  shape = refl;
  taken = shows (g.met.F.Field.lawful c.args.field.now) c.args.self.now c.args.frame.now c.requires.field c.requires.frame c.as_slice.ensures.value c.in-Some.ensures
      c.as_mut_slice.ensures.value c.insert.new.table c.insert.ensures;
}
