use Rattle.std.proofs.Common.{◌≡◌, ◌+◌, ◌==◌, ◌∷◌, true, false, length, drop, Ok, Err, vec_items, ap, ◌∙◌, rules, tests, arith}
use Rattle.std.proofs.iter.Serving.{serving}
use Rattle.std.proofs.lemmas.Bool.{cond-true, cond-false}
use Rattle.std.proofs.lemmas.Iterator.Splits.{YieldsList-from_slice_split}
use Rattle.std.proofs.lemmas.Grind.{common_steps}
use Rattle.std.proofs.lemmas.List.{length_push}
use Rattle.std.proofs.lemmas.Result.{err_from_is_err_and}
use Rattle.text.specs.declared.fault.LineFault.TheVariants.{WrongCount}
use Rattle.text.specs.Cuts.{fields_of}
use Rattle.text.specs.Lines.{field_answer, numbers_from, fits, counted}
use Rattle.text.proofs.Numbers.{left_more, left_none, Sofar, none_read, all_read, field_refused, field_read}
use Rattle.text.proofs.line.LineForm.read.Goals as goal
use Rattle.text.proofs.line.LineForm.read.Goals.{After-read_field, After-len-2}

-- the field of this turn is the first that is left
turn : (c : After-read_field)
    → Sofar c.args.self.digits (fields_of c.args.line.now) (vec_items c.loop-field.numbers) (length c.loop-field.yielded + 1) (c.in-Some.field.now ∷ drop (length c.loop-field.yielded + 1) (fields_of c.args.line.now))
turn c =
    let at = c.loop-field in
    let left = left_more (YieldsList-from_slice_split _ (λ b. b == 44) c.args.line.now (cc) (cc) (cc) (λ x b q k. search (rules, tests))) at.yielded at.field-iterator at.yielded_by c.next.result c.next.new.self c.in-Some.field c.in-Some.is c.next.ensures.steps in
    rw (← left) at.invariant.numbers

-- after the last turn none is left
ended : (c : After-len-2) → numbers_from c.args.self.digits 1 (fields_of c.args.line.now) ≡ Ok (vec_items c.loop-field.numbers)
ended c =
    let at = c.loop-field in
    let left = left_none (YieldsList-from_slice_split _ (λ b. b == 44) c.args.line.now (cc) (cc) (cc) (λ x b q k. search (rules, tests))) at.yielded at.field-iterator at.yielded_by c.next.result c.next.new.self c.in-None.is c.next.ensures.steps in
    all_read left at.invariant.numbers

pub loop-field-init : goal.loop-field-init
loop-field-init c = record {
  can = grind serving;
  finite = tt;
  count = c.new-numbers.ensures.len;
  numbers = rw c.new-numbers.ensures.items (none_read c.args.self.digits (fields_of c.args.line.now));
}

pub returns-in_err-number : goal.returns-in_err-number
returns-in_err-number c =
    let told : field_answer c.args.self.digits (length c.loop-field.yielded + 1) c.in-Some.field.now ≡ Err c.in_err-number.field-0.0 = cc (c.in_err-number.was) in
    let p = err_from_is_err_and c.from_residual.result c.from_residual.ensures.1 in
    rw (p.1, p.2) (ap (counted c.args.self.width) (field_refused (turn (goal.at.returns-in_err-number c).After-read_field) told))

pub loop-field-preserved : goal.loop-field-preserved
loop-field-preserved c =
    let told : field_answer c.args.self.digits (length c.loop-field.yielded + 1) c.in-Some.field.now ≡ Ok c.in_ok-number.number = cc (c.in_ok-number.was) in
    let more = field_read (turn (goal.at.loop-field-preserved c).After-read_field) told in
    record {
      can = grind serving;
      finite = tt;
      count = grind (arith, common_steps);
      numbers = rw (c.in_ok-push.ensures.items, length_push c.loop-field.yielded c.in-Some.field) more;
    }

pub returns-then-not-allows : goal.returns-then-not-allows
returns-then-not-allows c =
    let ns = vec_items c.loop-field.numbers in
    let no : fits c.args.self.width (length ns) ≡ false = cc (c.loop-field.numbers.ok.0) in
    rw (c.into.ensures) (ap (counted c.args.self.width) (ended (goal.at.returns-then-not-allows c).After-len-2) ∙ cond-false (fits c.args.self.width (length ns)) (Ok ns) (Err (WrongCount (length ns))) no ∙ (cc))

pub returns : goal.returns
returns c =
    let ns = vec_items c.loop-field.numbers in
    let may : fits c.args.self.width (length ns) ≡ true = cc (c.loop-field.numbers.ok.0) in
    ap (counted c.args.self.width) (ended (goal.at.returns c).After-len-2) ∙ cond-true (fits c.args.self.width (length ns)) (Ok ns) (Err (WrongCount (length ns))) may
