use Rattle.std.proofs.Common.{refl}
use Rattle.field.specs.Gf256.{bit, poly_product, reduced, gf256_product}
use Rattle.field.proofs.Logarithms.{powers, table_exp}
use Rattle.field.proofs.gf256.tables.exp.Goals as goal

pub returns : goal.returns
unfolding powers gf256_product poly_product reduced bit
returns c = table_exp _ c.from.result c.args.n c.from.ensures refl c.requires
