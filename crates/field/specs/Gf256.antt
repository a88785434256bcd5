-- GF(256) as FIPS 197 has it: a code is a polynomial over bits, bit i the coefficient of x to the i, and products are
-- reduced by x^8 + x^4 + x^3 + x + 1, which is 11B hex. Assumes nothing.
use Rattle.std.specs.Prelude.{◌≡◌, ℕ, zero, suc, ◌+◌, ◌*◌, ◌/◌, ◌%◌, ◌^◌, ◌<◌, bit_xor}
use Rattle.field.specs.Fields.{Ops}
use Rattle.field.specs.Powers.{power}

-- the coefficient of x to the i
unfoldable pub bit : ℕ → ℕ → ℕ
bit i p = p / 2 ^ i % 2

-- the polynomial product of a and the lowest n bits of b: the sum of a times x to the i over the bits i of b
unfoldable pub poly_product : ℕ → ℕ → ℕ → ℕ
poly_product zero a b = 0
poly_product (suc n) a b = bit_xor (poly_product n a b) (bit n b * (a * 2 ^ n))

-- the remainder of a polynomial of degree below 8 + n, divided by 11B hex: the highest powers of x are taken away first
unfoldable pub reduced : ℕ → ℕ → ℕ
reduced zero p = p
reduced (suc n) p = reduced n (bit_xor p (bit (8 + n) p * (0x11B * 2 ^ n)))

-- the product of two codes
unfoldable pub gf256_product : ℕ → ℕ → ℕ
gf256_product a b = reduced 7 (poly_product 8 a b)

-- sum and difference are exclusive or; the inverse of a is its power 254, since its power 255 is 1
abbrev pub gf256 : Ops
gf256 = record {
  size = 256;
  sum = bit_xor;
  difference = bit_xor;
  product = gf256_product;
  inverse = λ a. power gf256_product a 254;
}

-- the power n of 3
abbrev pub power_of_3 : ℕ → ℕ
power_of_3 = power gf256_product 3

-- n is the logarithm of a to the base 3
pub record IsLog (a n : ℕ) : Type 0 where
  pub is : power_of_3 n ≡ a
  pub least : n < 255
