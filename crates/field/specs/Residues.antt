-- Remainders modulo m: a field where m is a prime. Assumes nothing.
use Rattle.std.specs.Prelude.{ℕ, ◌+◌, ◌-◌, ◌*◌, ◌%◌}
use Rattle.field.specs.Fields.{Ops}
use Rattle.field.specs.Powers.{power}

-- the product of two codes
abbrev pub times_modulo : ℕ → ℕ → ℕ → ℕ
times_modulo m a b = (a * b) % m

-- the inverse of a is its power m - 2, by Fermat's little theorem
abbrev pub residues : ℕ → Ops
residues m = record {
  size = m;
  sum = λ a b. (a + b) % m;
  difference = λ a b. (a + (m - b)) % m;
  product = times_modulo m;
  inverse = λ a. power (times_modulo m) a (m - 2);
}

-- the prime field that is delivered
abbrev pub modulo_257 : Ops
modulo_257 = residues 257

-- GF(2)
abbrev pub gf2 : Ops
gf2 = residues 2
