use Rattle.std.proofs.Common.{◌≡◌, ◌<◌}
use Rattle.field.specs.Residues.{times_modulo}
use Rattle.field.specs.Products.{turns}
use Rattle.field.proofs.residues.inverse.Given as goal

abbrev pub invariant-loop-turn : goal.invariant-loop-turn
invariant-loop-turn g l = record { code : l.power < g.M.Modulus.Q; power : l.power ≡ turns (times_modulo g.M.Modulus.Q) l.base l._turn }
