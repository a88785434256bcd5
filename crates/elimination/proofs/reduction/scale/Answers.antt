use Rattle.std.proofs.Common.{◌≡◌, ℕ, ◌<◌, length, sym, subst, arith}
use Rattle.std.proofs.lemmas.List.FromFn.{fill_by_all}
use Rattle.algebra.specs.Frames.{code_at}
use Rattle.elimination.specs.Reduction.{multiple}
use Rattle.elimination.proofs.reduction.scale.Goals as goal

pub returns : goal.returns
unfolding multiple
returns g c =
    let o = g.F.Field.ops c.args.field.now in
    let laws = g.met.F.Field.lawful c.args.field.now in
    let row = c.args.row.now in
    let long : length c.loop-code.row ≡ length row = omega arith in
    record {
      value = fill_by_all (λ i. o.product c.args.factor (code_at row i)) c.loop-code.row (length row) 0 long (λ i h. c.loop-code.invariant.0 i (omega arith));
      codes = λ i h. subst (λ (x : ℕ). x < o.size) (sym (c.loop-code.invariant.0 i (omega arith)))
          (laws.product_closed c.args.factor (code_at row i) c.requires.factor_code (c.requires.row_codes i (omega arith)));
    }
