use Rattle.std.proofs.Common.{sym, refl, subst, arith}
use Rattle.field.specs.Gf256.{bit, poly_product, reduced, gf256_product, IsLog}
use Rattle.field.proofs.Logarithms.{powers, place, log_table, table_log}
use Rattle.field.proofs.gf256.tables.log.Goals as goal

pub returns : goal.returns
unfolding log_table place powers gf256_product poly_product reduced bit
returns c =
    subst (IsLog c.args.a) (sym c.from-2.ensures) (table_log _ c.from.result c.args.a c.from.ensures refl c.requires (omega arith))
