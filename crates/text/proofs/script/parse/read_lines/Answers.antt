use Rattle.std.proofs.Common.{◌≡◌, ◌+◌, [], ◌∷◌, ◌++◌, length, Ok, Err, vec_items, vec_len, refl, rules}
use Rattle.std.proofs.lemmas.List.{map_push}
use Rattle.std.proofs.lemmas.Result.{err_from_is_err_and}
use Rattle.text.specs.Cuts.{lines_of}
use Rattle.text.specs.Faults.{at_line}
use Rattle.text.specs.Lines.{line_answer, ReadAs}
use Rattle.text.specs.Tables.{lists}
use Rattle.text.proofs.Turns.{mapped, Sofar, all_read, line_read, line_unread}
use Rattle.text.proofs.script.parse.read_lines.Goals as goal
use Rattle.text.proofs.script.parse.read_lines.Goals.{After-read}

-- the line of this turn is the first that is left
turn : (c : After-read) → Sofar (lines_of c.args.text.now) (lists (vec_items c.loop-line.lines)) c.loop-line.width (vec_len c.loop-line.lines + 1) (c.in-Some.line.now ∷ lines_of c.next.new.self.rest.now)
turn c =
    let left : lines_of c.loop-line.line-iterator.rest.now ≡ c.in-Some.line.now ∷ lines_of c.next.new.self.rest.now = c.in-Some.ensures.steps in
    rw (← left) c.loop-line.invariant

pub returns-in_err-numbers : goal.returns-in_err-numbers
returns-in_err-numbers c =
    let p = err_from_is_err_and c.from_residual.result c.from_residual.ensures.1 in
    let q = mapped _ c.read.result c.map_err.result c.map_err.ensures.cases c.in_err-numbers.was in
    let told : ReadAs (line_answer 1 c.loop-line.width c.in-Some.line.now) (Err q.0) = rw (← q.1) c.read.ensures in
    let same : c.in_err-numbers.field-0.0 ≡ at_line (vec_len c.loop-line.lines + 1) q.0 = search (rules, q.2) in
    rw (p.1, p.2, same) (line_unread (turn (goal.at.returns-in_err-numbers c).After-read) q.0 told (vec_items c.loop-line.lines) refl)

pub loop-line-preserved : goal.loop-line-preserved
loop-line-preserved c =
    let before = c.loop-line.lines in
    let numbers = c.in_ok-numbers.numbers in
    let told : line_answer 1 c.loop-line.width c.in-Some.line.now ≡ Ok (vec_items numbers) = search rules in
    let wide : c.len-in-loop-line.result ≡ length (vec_items numbers) = cc (numbers.ok.0) in
    let pushed : vec_items c.push.new.self ≡ vec_items before ++ (numbers ∷ []) = search rules in
    let longer : vec_len c.push.new.self ≡ vec_len before + 1 = search rules in
    rw (pushed, map_push vec_items (vec_items before) numbers, longer, wide) (line_read (turn (goal.at.loop-line-preserved c).After-read) told)

pub returns : goal.returns
returns c =
    let none : lines_of c.loop-line.line-iterator.rest.now ≡ [] = c.in-None.ensures.steps.0 in
    all_read none c.loop-line.invariant
