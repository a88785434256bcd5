use Rattle.std.proofs.Common.{arith}
use Rattle.field.proofs.Logarithms.{product_by_logs, zero_product, product_zero}
use Rattle.field.proofs.gf256.times.Goals as goal

pub returns-then-a-eq0 : goal.returns-then-a-eq0
returns-then-a-eq0 c = grind (arith, zero_product, product_zero)

pub returns : goal.returns
returns c = search (arith, product_by_logs)
