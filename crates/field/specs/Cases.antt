-- Worked cases of the definitions. Assumes nothing.
use Rattle.std.specs.Prelude.{◌≡◌}
use Rattle.field.specs.Residues.{modulo_257}
use Rattle.field.specs.Gf256.{gf256}

pub record FieldCases : Type 0 where
  -- modulo 257: 16 times 17 is 15, 20 - 50 is 227, the inverse of 2 is 129
  pub product_257 : modulo_257.product 16 17 ≡ 15
  pub difference_257 : modulo_257.difference 20 50 ≡ 227
  pub inverse_257 : modulo_257.inverse 2 ≡ 129
  -- GF(256): 57 hex times 83 hex is C1 hex, the inverse of 53 hex is CA hex
  pub product_256 : gf256.product 0x57 0x83 ≡ 0xC1
  pub inverse_256 : gf256.inverse 0x53 ≡ 0xCA
