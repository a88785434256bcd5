-- What a field means, and the laws that make it one. Assumes nothing.
use Rattle.std.specs.Prelude.{◌≡◌, ℕ, ◌<◌, ◌≤◌}

-- A field by its meaning: its size q, and its operations on the codes 0 to q - 1.
pub record Ops : Type 0 where
  pub size : ℕ
  pub sum : ℕ → ℕ → ℕ
  pub difference : ℕ → ℕ → ℕ
  pub product : ℕ → ℕ → ℕ
  pub inverse : ℕ → ℕ

-- The laws, for codes: a, b and c stand for numbers below q throughout.
pub record Lawful (o : Ops) : Type 0 where
  -- q is 2 to 65,536
  pub size_least : 2 ≤ o.size
  pub size_most : o.size ≤ 65536
  -- what is made of codes is a code
  pub sum_closed : (a b : ℕ) → a < o.size → b < o.size → o.sum a b < o.size
  pub difference_closed : (a b : ℕ) → a < o.size → b < o.size → o.difference a b < o.size
  pub product_closed : (a b : ℕ) → a < o.size → b < o.size → o.product a b < o.size
  pub inverse_closed : (a : ℕ) → 0 < a → a < o.size → o.inverse a < o.size
  -- sum: associative, commutative, 0 is neutral
  pub sum_assoc : (a b c : ℕ) → a < o.size → b < o.size → c < o.size → o.sum (o.sum a b) c ≡ o.sum a (o.sum b c)
  pub sum_comm : (a b : ℕ) → a < o.size → b < o.size → o.sum a b ≡ o.sum b a
  pub sum_zero : (a : ℕ) → a < o.size → o.sum a 0 ≡ a
  -- product: associative, commutative, 1 is neutral
  pub product_assoc : (a b c : ℕ) → a < o.size → b < o.size → c < o.size → o.product (o.product a b) c ≡ o.product a (o.product b c)
  pub product_comm : (a b : ℕ) → a < o.size → b < o.size → o.product a b ≡ o.product b a
  pub product_one : (a : ℕ) → a < o.size → o.product a 1 ≡ a
  -- product distributes over sum
  pub distributes : (a b c : ℕ) → a < o.size → b < o.size → c < o.size → o.product a (o.sum b c) ≡ o.sum (o.product a b) (o.product a c)
  -- a - b + b is a
  pub difference_sum : (a b : ℕ) → a < o.size → b < o.size → o.sum (o.difference a b) b ≡ a
  -- a times the inverse of a is 1, for every a but 0
  pub product_inverse : (a : ℕ) → 0 < a → a < o.size → o.product a (o.inverse a) ≡ 1
