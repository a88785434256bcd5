use Rattle.std.proofs.Common.{◌≡◌, ℕ, ◌<◌, length, sym, subst, arith}
use Rattle.elimination.proofs.Subtraction.{less_closed, all_less}
use Rattle.elimination.proofs.rows.subtract_codes.Goals as goal

pub returns : goal.returns
returns g c =
    let o = g.F.Field.ops c.args.field.now in
    let laws = g.met.F.Field.lawful c.args.field.now in
    let t = c.args.target.now in
    let s = c.args.source.now in
    let long : length c.loop-i.target ≡ length t = omega arith in
    record {
      after = all_less o laws t c.args.factor s c.loop-i.target long (λ i h. c.loop-i.invariant.0 i (omega arith));
      codes = λ i h. subst (λ (x : ℕ). x < o.size) (sym (c.loop-i.invariant.0 i (omega arith)))
          (less_closed o laws t c.args.factor s c.requires.factor_code c.requires.target_codes c.requires.source_codes c.requires.long i (omega arith));
    }
