-- Powers by a product that is closed, associative and has 1 as neutral element below q. Assumes nothing.
use Rattle.std.specs.Prelude.{◌≡◌, ℕ, zero, suc, ◌+◌, ◌-◌, ◌^◌, ◌<◌}
use Rattle.std.proofs.Math.Path.{refl, sym, ap}
use Rattle.std.proofs.Common.{◌∙◌, add-zero, add-suc, add-one, arith}
use Rattle.std.proofs.Math.Nat.{pow-suc}
use Rattle.std.proofs.Math.Pow.{pow_pos}
use Rattle.field.specs.Powers.{power}

pub record Product (q : ℕ) (times : ℕ → ℕ → ℕ) : Type 0 where
  pub unit : 1 < q
  pub closed : (a b : ℕ) → a < q → b < q → times a b < q
  pub assoc : (a b c : ℕ) → a < q → b < q → c < q → times (times a b) c ≡ times a (times b c)
  pub one : (a : ℕ) → a < q → times a 1 ≡ a

-- n turns of squaring and multiplying by a, from 1
abbrev pub turns : (ℕ → ℕ → ℕ) → ℕ → ℕ → ℕ
turns times a zero = 1
turns times a (suc n) = let r = turns times a n in times (times r r) a

pub turns_more : (times : ℕ → ℕ → ℕ) (a n r : ℕ) → r ≡ turns times a n → times (times r r) a ≡ turns times a (n + 1)
turns_more times a n r h = ap (λ x. times (times x x) a) h ∙ ap (turns times a) (sym (add-one n))

module _ (q : ℕ) (times : ℕ → ℕ → ℕ) (p : Product q times) where
  pub power_closed : (a n : ℕ) → a < q → power times a n < q
  unfolding power
  power_closed a zero h = p.unit
  power_closed a (suc n) h = p.closed (power times a n) a (power_closed a n h) h

  -- the power of a sum is the product of the powers
  pub power_add : (a m n : ℕ) → a < q → power times a (m + n) ≡ times (power times a m) (power times a n)
  unfolding power
  power_add a m zero h = ap (power times a) (add-zero m) ∙ sym (p.one (power times a m) (power_closed a m h))
  power_add a m (suc n) h =
      ap (power times a) (add-suc m n) ∙ ap (λ x. times x a) (power_add a m n h)
      ∙ p.assoc (power times a m) (power times a n) a (power_closed a m h) (power_closed a n h) h

  -- n turns give the power 2 ^ n - 1
  pub turns_power : (a n : ℕ) → a < q → turns times a n ≡ power times a (2 ^ n - 1)
  unfolding power
  turns_power a zero h = refl
  turns_power a (suc n) h =
      ap (λ x. times (times x x) a) (turns_power a n h)
      ∙ ap (λ x. times x a) (sym (power_add a (2 ^ n - 1) (2 ^ n - 1) h)) ∙ ap (power times a) one_more
    where
      one_more : suc (2 ^ n - 1 + (2 ^ n - 1)) ≡ 2 ^ suc n - 1
      one_more = omega (arith, pow_pos n, pow-suc 2 n)
