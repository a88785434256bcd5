-- GF(256) is a lawful field: every piece of its product is additive over exclusive or, so the laws hold for all codes once
-- they hold for the powers of x, which antt computes. Assumes nothing.
use Rattle.std.specs.Prelude.{◌≡◌, ℕ, zero, suc, ◌+◌, ◌*◌, ◌/◌, ◌%◌, ◌^◌, ◌<◌, Bool, true, ◌==◌, nat_lt, refl}
use Rattle.std.proofs.Common.{sym, ap, ap₂, ◌∙◌, subst, add-zero, zero-mul, one-mul, mod-lt, mul_comm, pow-suc, div-lt_iff_lt-mul, arith, lit<, lit≤, pow_pos}
use Rattle.std.proofs.lemmas.Bool.{eqb-true, ltb-true}
use Rattle.std.proofs.Math.Nat.{div-add-mod}
use Rattle.std.specs.Int.Bits.{bit_xor, xor_assoc, xor_self, xor_zero_l, xor_zero_r, xor_shifted}
use Rattle.std.proofs.lemmas.Nat.{xor_comm, xor_shr, xor_mod, xor_block, xor_lt}
use Rattle.field.specs.Fields.{Lawful}
use Rattle.field.specs.Gf256.{bit, poly_product, reduced, gf256_product, gf256}
use Rattle.field.specs.Powers.{power}
use Rattle.field.specs.Products.{Product, turns, power_closed, turns_power}
use Rattle.field.specs.Tests.{all_below, passes}

-- f keeps exclusive or
abbrev Additive : (ℕ → ℕ) → Type 0
Additive f = (a b : ℕ) → f (bit_xor a b) ≡ bit_xor (f a) (f b)

xor_swap : (a b c d : ℕ) → bit_xor (bit_xor a b) (bit_xor c d) ≡ bit_xor (bit_xor a c) (bit_xor b d)
xor_swap a b c d =
    xor_assoc a b (bit_xor c d) ∙ ap (bit_xor a) (sym (xor_assoc b c d) ∙ ap (λ x. bit_xor x d) (xor_comm b c) ∙ xor_assoc c b d)
    ∙ sym (xor_assoc a c (bit_xor b d))

bit_below : (i p : ℕ) → bit i p < 2
unfolding bit
bit_below i p = mod-lt (p / 2 ^ i) (lit< tt)

bit-xor : (i : ℕ) → Additive (bit i)
unfolding bit
bit-xor i a b = ap (λ x. x % 2) (xor_shr a b i) ∙ xor_mod (a / 2 ^ i) (b / 2 ^ i) 1

-- a bit times a number is additive in both
bit_times : (x y k : ℕ) → x < 2 → y < 2 → bit_xor x y * k ≡ bit_xor (x * k) (y * k)
bit_times zero zero k _ _ = simp zero-mul
bit_times zero (suc zero) k _ _ = simp (zero-mul, xor_zero_l)
bit_times (suc zero) zero k _ _ = simp (zero-mul, xor_zero_r)
bit_times (suc zero) (suc zero) k _ _ = simp (zero-mul, xor_self)
bit_times zero (suc (suc y)) k _ h = absurd (omega arith)
bit_times (suc zero) (suc (suc y)) k _ h = absurd (omega arith)
bit_times (suc (suc x)) y k h _ = absurd (omega arith)

times_xor : (x u v : ℕ) → x < 2 → x * bit_xor u v ≡ bit_xor (x * u) (x * v)
times_xor zero u v _ = simp zero-mul
times_xor (suc zero) u v _ = simp one-mul
times_xor (suc (suc x)) u v h = absurd (omega arith)

shift_xor : (n : ℕ) → Additive (λ a. a * 2 ^ n)
shift_xor n a b =
    sym (simp (add-zero, xor_self) at (xor_block n a b 0 0 (pow_pos n) (pow_pos n)))

-- a bit of a sum times k, beside a sum: the parts of the two go together
with_bit : (i k u v x y : ℕ) → bit_xor (bit_xor u v) (bit i (bit_xor x y) * k) ≡ bit_xor (bit_xor u (bit i x * k)) (bit_xor v (bit i y * k))
with_bit i k u v x y =
    ap (bit_xor (bit_xor u v)) (ap (λ z. z * k) (bit-xor i x y) ∙ bit_times (bit i x) (bit i y) k (bit_below i x) (bit_below i y))
    ∙ xor_swap u v (bit i x * k) (bit i y * k)

poly_right : (n a : ℕ) → Additive (poly_product n a)
unfolding poly_product
poly_right zero a b c = refl
poly_right (suc n) a b c =
    ap (λ x. bit_xor x (bit n (bit_xor b c) * (a * 2 ^ n))) (poly_right n a b c)
    ∙ with_bit n (a * 2 ^ n) (poly_product n a b) (poly_product n a c) b c

poly_left : (n b : ℕ) → Additive (λ a. poly_product n a b)
unfolding poly_product
poly_left zero b a c = refl
poly_left (suc n) b a c =
    ap (λ x. bit_xor x (bit n b * (bit_xor a c * 2 ^ n))) (poly_left n b a c)
    ∙ ap (bit_xor (bit_xor (poly_product n a b) (poly_product n c b)))
    (ap (λ x. bit n b * x) (shift_xor n a c) ∙ times_xor (bit n b) (a * 2 ^ n) (c * 2 ^ n) (bit_below n b))
    ∙ xor_swap (poly_product n a b) (poly_product n c b) (bit n b * (a * 2 ^ n)) (bit n b * (c * 2 ^ n))

reduced_xor : (n : ℕ) → Additive (reduced n)
unfolding reduced
reduced_xor zero p r = refl
reduced_xor (suc n) p r =
    ap (reduced n) (with_bit (8 + n) (0x11B * 2 ^ n) p r p r)
    ∙ reduced_xor n (bit_xor p (bit (8 + n) p * (0x11B * 2 ^ n))) (bit_xor r (bit (8 + n) r * (0x11B * 2 ^ n)))

pub product_right : (a : ℕ) → Additive (gf256_product a)
unfolding gf256_product
product_right a b c = ap (reduced 7) (poly_right 8 a b c) ∙ reduced_xor 7 (poly_product 8 a b) (poly_product 8 a c)

pub product_left : (b : ℕ) → Additive (λ a. gf256_product a b)
unfolding gf256_product
product_left b a c = ap (reduced 7) (poly_left 8 b a c) ∙ reduced_xor 7 (poly_product 8 a b) (poly_product 8 c b)

pub additive_zero : (f : ℕ → ℕ) → Additive f → f 0 ≡ 0
additive_zero f h = h 0 0 ∙ xor_self (f 0)

-- what holds at 0 and at the powers of two below 2 ^ k, and of an exclusive or with its parts, holds below 2 ^ k
module _ (P : ℕ → Type 0) (none : P 0) (both : (a b : ℕ) → P a → P b → P (bit_xor a b)) where
  at_bit : (h k : ℕ) → P (2 ^ k) → h < 2 → P (h * 2 ^ k)
  at_bit zero k p _ = subst P (sym (zero-mul (2 ^ k))) none
  at_bit (suc zero) k p _ = subst P (sym (one-mul (2 ^ k))) p
  at_bit (suc (suc h)) k p l = absurd (omega arith)

  pub by_powers : (k : ℕ) → ((i : ℕ) → i < k → P (2 ^ i)) → (a : ℕ) → a < 2 ^ k → P a
  by_powers zero at zero l = none
  by_powers zero at (suc a) l = absurd (omega arith)
  by_powers (suc k) at a l =
      subst P split (both (a / 2 ^ k * 2 ^ k) (a % 2 ^ k) high (by_powers k (λ i h. at i (omega arith)) (a % 2 ^ k) (mod-lt a (pow_pos k))))
    where
      split : bit_xor (a / 2 ^ k * 2 ^ k) (a % 2 ^ k) ≡ a
      split = xor_shifted (a / 2 ^ k) k (a % 2 ^ k) (mod-lt a (pow_pos k)) ∙ ap (λ x. x + a % 2 ^ k) (mul_comm (a / 2 ^ k) (2 ^ k)) ∙ div-add-mod a (2 ^ k)

      top : a / 2 ^ k < 2
      top = (div-lt_iff_lt-mul (pow_pos k)).1 (subst (λ (x : ℕ). a < x) (pow-suc 2 k ∙ mul_comm (2 ^ k) 2) l)

      high : P (a / 2 ^ k * 2 ^ k)
      high = at_bit (a / 2 ^ k) k (at k (omega arith)) top

-- additive functions that agree at the powers of two below 256 agree at all codes
agree : (f g : ℕ → ℕ) → Additive f → Additive g → ((i : ℕ) → i < 8 → f (2 ^ i) ≡ g (2 ^ i)) → (a : ℕ) → a < 256 → f a ≡ g a
agree f g hf hg =
    by_powers (λ a. f a ≡ g a) (additive_zero f hf ∙ sym (additive_zero g hg)) (λ a b p q. hf a b ∙ ap₂ bit_xor p q ∙ sym (hg a b)) 8

after : (f g : ℕ → ℕ) → Additive f → Additive g → Additive (λ a. f (g a))
after f g hf hg a b = ap f (hg a b) ∙ hf (g a) (g b)

-- the laws at powers of two, computed
commutes : ℕ → ℕ → Bool
commutes i j = gf256_product (2 ^ i) (2 ^ j) == gf256_product (2 ^ j) (2 ^ i)

associates : ℕ → ℕ → ℕ → Bool
associates i j k =
    (gf256_product (gf256_product (2 ^ i) (2 ^ j)) (2 ^ k) == gf256_product (2 ^ i) (gf256_product (2 ^ j) (2 ^ k)))

stays : ℕ → ℕ → Bool
stays i j = nat_lt (gf256_product (2 ^ i) (2 ^ j)) 256

keeps : ℕ → Bool
keeps i = gf256_product (2 ^ i) 1 == 2 ^ i

commutes_all : all_below (λ i. all_below (commutes i) 8) 8 ≡ true
unfolding commutes gf256_product poly_product reduced bit
commutes_all = refl

associates_all : all_below (λ i. all_below (λ j. all_below (associates i j) 8) 8) 8 ≡ true
unfolding associates gf256_product poly_product reduced bit
associates_all = refl

stays_all : all_below (λ i. all_below (stays i) 8) 8 ≡ true
unfolding stays gf256_product poly_product reduced bit
stays_all = refl

keeps_all : all_below keeps 8 ≡ true
unfolding keeps gf256_product poly_product reduced bit
keeps_all = refl

product_comm : (a b : ℕ) → a < 256 → b < 256 → gf256_product a b ≡ gf256_product b a
unfolding commutes
product_comm a b ha hb =
    agree (λ x. gf256_product x b) (gf256_product b) (product_left b) (product_right b)
    (λ i hi. agree (gf256_product (2 ^ i)) (λ y. gf256_product y (2 ^ i)) (product_right (2 ^ i)) (product_left (2 ^ i))
    (λ j hj. eqb-true _ _ (passes (commutes i) 8 (passes (λ i. all_below (commutes i) 8) 8 commutes_all i hi) j hj)) b hb)
    a ha

product_assoc : (a b c : ℕ) → a < 256 → b < 256 → c < 256 → gf256_product (gf256_product a b) c ≡ gf256_product a (gf256_product b c)
unfolding associates
product_assoc a b c ha hb hc =
    agree (λ x. gf256_product (gf256_product x b) c) (λ x. gf256_product x (gf256_product b c))
    (after (λ x. gf256_product x c) (λ x. gf256_product x b) (product_left c) (product_left b)) (product_left (gf256_product b c))
    (λ i hi. agree (λ y. gf256_product (gf256_product (2 ^ i) y) c) (λ y. gf256_product (2 ^ i) (gf256_product y c))
    (after (λ x. gf256_product x c) (gf256_product (2 ^ i)) (product_left c) (product_right (2 ^ i)))
    (after (gf256_product (2 ^ i)) (λ y. gf256_product y c) (product_right (2 ^ i)) (product_left c))
    (λ j hj. agree (gf256_product (gf256_product (2 ^ i) (2 ^ j))) (λ z. gf256_product (2 ^ i) (gf256_product (2 ^ j) z))
    (product_right (gf256_product (2 ^ i) (2 ^ j)))
    (after (gf256_product (2 ^ i)) (gf256_product (2 ^ j)) (product_right (2 ^ i)) (product_right (2 ^ j)))
    (λ k hk. eqb-true _ _ (passes (associates i j) 8
    (passes (λ j. all_below (associates i j) 8) 8
    (passes (λ i. all_below (λ j. all_below (associates i j) 8) 8) 8 associates_all i hi) j hj) k hk))
    c hc) b hb) a ha

product_closed : (a b : ℕ) → a < 256 → b < 256 → gf256_product a b < 256
unfolding stays
product_closed a b ha hb =
    below (λ x. gf256_product x b) (product_left b)
    (λ i hi. below (gf256_product (2 ^ i)) (product_right (2 ^ i))
    (λ j hj. ltb-true _ _ (passes (stays i) 8 (passes (λ i. all_below (stays i) 8) 8 stays_all i hi) j hj)) b hb)
    a ha
  where
    below : (f : ℕ → ℕ) → Additive f → ((i : ℕ) → i < 8 → f (2 ^ i) < 256) → (x : ℕ) → x < 256 → f x < 256
    below f hf =
        by_powers (λ x. f x < 256) (subst (λ (x : ℕ). x < 256) (sym (additive_zero f hf)) (lit< tt))
        (λ x y p q. subst (λ (z : ℕ). z < 256) (sym (hf x y)) (xor_lt 8 (f x) (f y) p q)) 8

product_one : (a : ℕ) → a < 256 → gf256_product a 1 ≡ a
unfolding keeps
product_one =
    agree (λ x. gf256_product x 1) (λ x. x) (product_left 1) (λ x y. refl) (λ i hi. eqb-true _ _ (passes keeps 8 keeps_all i hi))

xor_back : (a b : ℕ) → bit_xor (bit_xor a b) b ≡ a
xor_back a b = simp (xor_assoc, xor_self, xor_zero_r)

pub gf256_products : Product 256 gf256_product
gf256_products = record { unit = lit< tt; closed = product_closed; assoc = product_assoc; one = product_one }

-- the power 255 of 1 + k is 1
abbrev unit_power : ℕ → Bool
unit_power k = turns gf256_product (suc k) 8 == 1

unit_powers : all_below unit_power 255 ≡ true
unfolding gf256_product poly_product reduced bit
unit_powers = refl

product_inverse : (a : ℕ) → 0 < a → a < 256 → gf256_product a (power gf256_product a 254) ≡ 1
unfolding power
product_inverse zero p h = absurd (omega arith)
product_inverse (suc k) p h =
    product_comm (suc k) (power gf256_product (suc k) 254) h (power_closed 256 gf256_product gf256_products (suc k) 254 h)
    ∙ sym (turns_power 256 gf256_product gf256_products (suc k) 8 h)
    ∙ eqb-true _ _ (passes unit_power 255 unit_powers k (omega arith))

pub gf256_lawful : Lawful gf256
gf256_lawful = record {
  size_least = lit≤ tt;
  size_most = lit≤ tt;
  sum_closed = xor_lt 8;
  difference_closed = xor_lt 8;
  product_closed = product_closed;
  inverse_closed = λ a _ h. power_closed 256 gf256_product gf256_products a 254 h;
  sum_assoc = λ a b c _ _ _. xor_assoc a b c;
  sum_comm = λ a b _ _. xor_comm a b;
  sum_zero = λ a _. xor_zero_r a;
  product_assoc = product_assoc;
  product_comm = product_comm;
  product_one = product_one;
  distributes = λ a b c _ _ _. product_right a b c;
  difference_sum = λ a b _ _. xor_back a b;
  product_inverse = product_inverse;
}
