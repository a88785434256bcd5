-- The elements of a lawful field: codes with the proof that they are below q. Its laws hold of all of them. Assumes nothing.
use Rattle.std.proofs.Common.{◌≡◌, ℕ, zero, suc, ◌<◌, refl, ap, ◌∙◌, le_trans, arith, lit≤}
use mathlib.Core.HLevel.{Σ_prop_path}
use native.Mathlib.Bridge.{le_prop}
use Rattle.field.specs.Fields.{Ops, Lawful}
use Rattle.field.proofs.Arithmetic.{Arithmetic, inv_unique}

abbrev pub Element : Ops → Type 0
Element o = (x : ℕ) × (x < o.size)

-- elements with one code are equal
pub same_code : {q : ℕ} {a b : (x : ℕ) × (x < q)} → a.0 ≡ b.0 → a ≡ b
same_code e = Σ_prop_path (λ x. le_prop) e

module _ (o : Ops) (laws : Lawful o) where
  -- the inverse; that of 0, which has none, is put at 0
  pub inverse_element : (n : ℕ) → n < o.size → Element o
  inverse_element zero h = (0, h)
  inverse_element (suc n) h = (o.inverse (suc n), laws.inverse_closed (suc n) (omega arith) h)

  abbrev pub none : Element o
  none = (0, le_trans (lit≤ tt) laws.size_least)

  pub unit : (n : ℕ) (h : n < o.size) → (◌≡◌ {A = Element o} (n, h) none → ⊥) → o.product n (inverse_element n h).0 ≡ 1
  unfolding inverse_element
  unit zero h ne = absurd (ne (same_code refl))
  unit (suc n) h ne = laws.product_inverse (suc n) (omega arith) h

  abbrev pub elements : Arithmetic (Element o)
  elements = record {
    zero = none;
    one = (1, laws.size_least);
    add = λ a b. (o.sum a.0 b.0, laws.sum_closed a.0 b.0 a.1 b.1);
    sub = λ a b. (o.difference a.0 b.0, laws.difference_closed a.0 b.0 a.1 b.1);
    mul = λ a b. (o.product a.0 b.0, laws.product_closed a.0 b.0 a.1 b.1);
    inv = λ a. inverse_element a.0 a.1;
    add_assoc = λ a b c. same_code (laws.sum_assoc a.0 b.0 c.0 a.1 b.1 c.1);
    add_comm = λ a b. same_code (laws.sum_comm a.0 b.0 a.1 b.1);
    add-zero = λ a. same_code (laws.sum_zero a.0 a.1);
    mul_assoc = λ a b c. same_code (laws.product_assoc a.0 b.0 c.0 a.1 b.1 c.1);
    mul_comm = λ a b. same_code (laws.product_comm a.0 b.0 a.1 b.1);
    mul-one = λ a. same_code (laws.product_one a.0 a.1);
    mul-add = λ a b c. same_code (laws.distributes a.0 b.0 c.0 a.1 b.1 c.1);
    sub_add = λ a b. same_code (laws.difference_sum a.0 b.0 a.1 b.1);
    mul_inv = λ a ne. same_code (unit a.0 a.1 ne);
    apart = λ e. absurd (omega (arith, ap (λ x. x.0) e));
  }

  -- a code above 0 is not the element 0, and its inverse is the field's
  pub not_none : (a : ℕ) (h : a < o.size) → 0 < a → ◌≡◌ {A = Element o} (a, h) none → ⊥
  not_none a h p e = absurd (omega (arith, ap (λ x. x.0) e))

  pub inverse_code : (a : ℕ) (h : a < o.size) → 0 < a → (inverse_element a h).0 ≡ o.inverse a
  unfolding inverse_element
  inverse_code zero h p = absurd (omega arith)
  inverse_code (suc a) h p = refl

  -- what gives 1 in a product with a is the inverse of a
  pub inverse_unique : (a b : ℕ) → 0 < a → a < o.size → b < o.size → o.product a b ≡ 1 → b ≡ o.inverse a
  inverse_unique a b p ha hb e =
      ap (λ x. x.0) (inv_unique elements (a, ha) (b, hb) (not_none a ha p) (same_code e)) ∙ inverse_code a ha p
