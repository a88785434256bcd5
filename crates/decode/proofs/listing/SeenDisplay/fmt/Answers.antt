use Rattle.std.proofs.Common.{◌≡◌, ◌+◌, ◌/◌, ◌%◌, ◌^◌, [], ◌++◌, eqb, codes, decimal, get_or, zero-add, sym, ap, ◌∙◌, rules}
use Rattle.std.proofs.Output.{writes_in_calls_nil, has_written_to_eq}
use Rattle.std.proofs.lemmas.Bool.{eq-eqb, ne_eqb, cond-true, cond-false}
use Rattle.std.proofs.lemmas.List.FromFn.{get_or-range_with_len}
use Rattle.std.specs.List.{range_with_len}
use Rattle.decode.specs.Listing.{bit_text}
use Rattle.decode.proofs.Writing.{more_written}
use Rattle.decode.proofs.listing.SeenDisplay.fmt.Goals as goal
use Rattle.decode.proofs.listing.SeenDisplay.fmt.Goals.{then-self-k-eq1+in_ok-write, else-self-k-eq1}

pub loop-k-preserved : goal.loop-k-preserved
loop-k-preserved g c = λ p.
    let took = g.W.Write.write_str_gives in
    let set = c.args.self.now.0 in
    let k = c.loop-k.k in
    let bit = eqb (set / 2 ^ k % 2) 1 in
    let here : get_or (range_with_len 0 32) k 0 ≡ k = get_or-range_with_len 0 32 k 0 c.loop-k-test.true ∙ zero-add k in
    let before = c.loop-k.invariant p in
    elim c.if-self-k-eq1.branch [
      | then-self-k-eq1+in_ok-write w ↦
          more_written took (bit_text set) (range_with_len 0 32) k 0 c.loop-k-test.true {bs = codes " " ++ decimal (k + 1)}
          (sym (ap (bit_text set) here ∙ cond-true bit _ _ (eq-eqb _ _ w.if-self-k-eq1.true))) before
          (has_written_to_eq took _ _ _ _ w.f-is (search rules))
      | else-self-k-eq1 w ↦
          more_written took (bit_text set) (range_with_len 0 32) k 0 c.loop-k-test.true {bs = []}
          (sym (ap (bit_text set) here ∙ cond-false bit _ _ (ne_eqb _ _ w.if-self-k-eq1.false))) before
          (has_written_to_eq took _ _ _ _ w.f-is (record { wrote = writes_in_calls_nil took _; plain = before.plain }))
    ]
