use Rattle.std.proofs.Common.{◌≡◌, arith, rules}
use Rattle.field.specs.Residues.{residues}
use Rattle.field.specs.Remainders.{inverse_turns}
use Rattle.field.proofs.residues.inverse.Goals as goal

pub returns : goal.returns
returns g c =
    let m = g.M.Modulus in
    let e : c.loop-turn.power ≡ (residues m.Q).inverse c.args.a = grind (arith, inverse_turns m.Q m.TURNS c.args.a m.least m.turned) in
    search rules
