use Rattle.std.proofs.Common.{◌+◌, vec_items, vec_len}
use Rattle.text.specs.Cuts.{lines_of}
use Rattle.text.specs.Tables.{lists}
use Rattle.text.proofs.Turns.{Sofar}
use Rattle.text.proofs.script.parse.read_lines.Given as goal

abbrev pub invariant-loop-line : goal.invariant-loop-line
invariant-loop-line l = Sofar (lines_of l.text) (lists (vec_items l.lines)) l.width (vec_len l.lines + 1) (lines_of l.line-iterator.rest.now)
