-- Powers by a field's product. Assumes nothing.
use Rattle.std.specs.Prelude.{ℕ, zero, suc}

-- a to the power n
unfoldable pub power : (ℕ → ℕ → ℕ) → ℕ → ℕ → ℕ
power times a zero = 1
power times a (suc n) = times (power times a n) a
