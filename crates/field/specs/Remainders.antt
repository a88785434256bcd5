-- Remainders modulo m are a lawful field where a computed test finds each code's inverse. Assumes nothing.
use Rattle.std.specs.Prelude.{◌≡◌, ℕ, zero, suc, ◌+◌, ◌-◌, ◌*◌, ◌%◌, ◌^◌, ◌<◌, ◌≤◌, Bool, true, ◌==◌}
use Rattle.std.proofs.Common.{sym, ap, ◌∙◌, add_assoc, add_comm, add-zero, mul_assoc, mul_comm, mul-one, mul-add, mod-lt, mod-eq_of_lt, arith}
use Rattle.std.proofs.Math.Nat.{mod-add-mod, add-mod-mod, add-mod_right}
use Rattle.std.proofs.lemmas.Bool.{eqb-true}
use Rattle.std.proofs.lemmas.Nat.{mul-mod_first, mul-mod_second}
use Rattle.field.specs.Fields.{Lawful}
use Rattle.field.specs.Powers.{power}
use Rattle.field.specs.Residues.{residues, times_modulo}
use Rattle.field.specs.Products.{Product, turns, power_closed, turns_power}
use Rattle.field.specs.Tests.{all_below, passes}

product : (m : ℕ) → 1 < m → Product m (times_modulo m)
product m h = record {
  unit = h;
  closed = λ a b _ _. mod-lt (a * b) (omega arith);
  assoc = λ a b c _ _ _. simp (mul-mod_first, mul-mod_second, mul_assoc);
  one = λ a k. simp mul-one (mod-eq_of_lt k);
}

-- the power of 1 + k that n turns give is its inverse modulo m
abbrev pub invertible : ℕ → ℕ → ℕ → Bool
invertible m n k = times_modulo m (suc k) (turns (times_modulo m) (suc k) n) == 1

pub inverse_turns : (m n a : ℕ) → 1 < m → m - 2 ≡ 2 ^ n - 1 → a < m → turns (times_modulo m) a n ≡ power (times_modulo m) a (m - 2)
inverse_turns m n a least turned h =
    turns_power m (times_modulo m) (product m least) a n h ∙ ap (power (times_modulo m) a) (sym turned)

module _ (m n : ℕ) (least : 1 < m) (most : m ≤ 65536) (turned : m - 2 ≡ 2 ^ n - 1) (inverses : all_below (invertible m n) (m - 1) ≡ true) where
  inverse_of : (a : ℕ) → 0 < a → a < m → times_modulo m a (power (times_modulo m) a (m - 2)) ≡ 1
  inverse_of zero p h = absurd (omega arith)
  inverse_of (suc k) p h =
      ap (times_modulo m (suc k)) (sym (inverse_turns m n (suc k) least turned h)) ∙ eqb-true _ _ (passes (invertible m n) (m - 1) inverses k (omega arith))

  pub residues_lawful : Lawful (residues m)
  residues_lawful = record {
    size_least = least;
    size_most = most;
    sum_closed = λ a b _ _. mod-lt (a + b) (omega arith);
    difference_closed = λ a b _ _. mod-lt (a + (m - b)) (omega arith);
    product_closed = (product m least).closed;
    inverse_closed = λ a _ h. power_closed m (times_modulo m) (product m least) a (m - 2) h;
    sum_assoc = λ a b c _ _ _. simp (mod-add-mod, add-mod-mod, add_assoc);
    sum_comm = λ a b _ _. ap (λ x. x % m) (add_comm a b);
    sum_zero = λ a h. simp add-zero (mod-eq_of_lt h);
    product_assoc = (product m least).assoc;
    product_comm = λ a b _ _. ap (λ x. x % m) (mul_comm a b);
    product_one = (product m least).one;
    distributes = λ a b c _ _ _. simp (mul-mod_second, mul-add, mod-add-mod, add-mod-mod);
    difference_sum = λ a b h k. rw (mod-add-mod, regroup a b k, add-mod_right) (mod-eq_of_lt h);
    product_inverse = inverse_of;
  }
    where
      regroup : (a b : ℕ) → b < m → a + (m - b) + b ≡ a + m
      regroup a b k = omega arith
