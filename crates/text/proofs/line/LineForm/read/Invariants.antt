use Rattle.std.proofs.Common.{◌≡◌, ◌+◌, length, drop, vec_items, vec_len}
use Rattle.text.specs.Cuts.{fields_of}
use Rattle.text.proofs.Numbers.{Sofar}
use Rattle.text.proofs.line.LineForm.read.Given as goal

abbrev pub invariant-loop-field : goal.invariant-loop-field
invariant-loop-field l = record {
  can : (goal.iterator-loop-field).can_next l.field-iterator;
  finite : (goal.iterator-loop-field).is_finite l.field-iterator;
  count : vec_len l.numbers ≡ length l.yielded;
  numbers : Sofar l.self.digits (fields_of l.line) (vec_items l.numbers) (length l.yielded + 1) (drop (length l.yielded) (fields_of l.line));
}
