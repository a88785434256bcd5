use Rattle.std.proofs.Common.{refl}
use Rattle.field.specs.Powers.{power}
use Rattle.field.specs.Gf256.{bit, poly_product, reduced, gf256_product}
use Rattle.field.proofs.field_cases.Goals as goal

pub returns : goal.returns
unfolding power bit poly_product reduced gf256_product
returns c = record { product_257 = refl; difference_257 = refl; inverse_257 = refl; product_256 = refl; inverse_256 = refl }
