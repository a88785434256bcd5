use Rattle.std.proofs.Common.{arith}
use Rattle.field.proofs.Logarithms.{inverse_by_log}
use Rattle.field.proofs.gf256.reciprocal.Goals as goal

pub returns : goal.returns
returns c = search (arith, inverse_by_log)
