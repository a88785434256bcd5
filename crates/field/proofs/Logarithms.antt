-- The tables of powers of 3 and of logarithms hold what they should, and logarithms add up to products. Assumes nothing.
use Rattle.std.proofs.Common.{◌≡◌, ℕ, zero, suc, ◌+◌, ◌-◌, ◌<◌, true, eqb, ltb, List, [], ◌∷◌, map, length, get_or, sym, refl, ap, ◌∙◌, subst, ap₂, le_of_suc-le-suc, not-suc-le-zero, add-zero, add-suc, suc-add, zero-add, arith, lit<}
use Rattle.std.specs.List.{range_with_len, position_or_len}
use Rattle.std.proofs.lemmas.List.Sums.{passes_at_first}
use Rattle.std.proofs.lemmas.List.FromFn.{get_or-map-range_with_len}
use Rattle.std.proofs.lemmas.Bool.{eqb-true, ltb-true}
use Rattle.field.specs.Powers.{power}
use Rattle.field.specs.Gf256.{bit, poly_product, reduced, gf256_product, gf256, power_of_3, IsLog}
use Rattle.field.proofs.Elements.{inverse_unique}
use Rattle.field.specs.Products.{power_closed, power_add}
use Rattle.field.specs.Polynomials.{gf256_lawful, gf256_products, product_left, product_right, additive_zero}
use Rattle.field.specs.Tests.{all_below, passes}

-- n powers of 3, from p on
unfoldable pub powers : ℕ → ℕ → List ℕ
powers p zero = []
powers p (suc n) = p ∷ powers (gf256_product p 3) n

length_powers : (p n : ℕ) → length (powers p n) ≡ n
unfolding powers
length_powers p zero = refl
length_powers p (suc n) = ap suc (length_powers (gf256_product p 3) n)

get_or_powers : (m n i : ℕ) → i < n → get_or (powers (power_of_3 m) n) i 0 ≡ power_of_3 (m + i)
unfolding powers power
get_or_powers m zero i h = absurd (not-suc-le-zero h)
get_or_powers m (suc n) zero h = ap power_of_3 (sym (add-zero m))
get_or_powers m (suc n) (suc i) h =
    get_or_powers (suc m) n i (le_of_suc-le-suc h) ∙ ap power_of_3 (suc-add m i ∙ sym (add-suc m i))

get_or_powers_one : (n i : ℕ) → i < n → get_or (powers 1 n) i 0 ≡ power_of_3 i
unfolding power
get_or_powers_one n i h = get_or_powers 0 n i h ∙ ap power_of_3 (zero-add i)

-- the table of powers
pub table_exp : (xs : List ℕ) (i n : ℕ) → i ≡ n → xs ≡ powers 1 509 → n < 509 → get_or xs i 0 ≡ power_of_3 n
table_exp xs i n e all h = ap₂ (λ ys k. get_or ys k 0) all e ∙ get_or_powers_one 509 n h

-- the first place at which ps has a
unfoldable pub place : List ℕ → ℕ → ℕ
place ps a = position_or_len (λ p. eqb p a) ps

get_or_place : (ps : List ℕ) (a : ℕ) → place ps a < length ps → get_or ps (place ps a) 0 ≡ a
unfolding place
get_or_place ps a h = eqb-true _ _ (passes_at_first (λ p. eqb p a) ps 0 h)

-- every code but 0 is one of the first 255 powers
placed : all_below (λ k. ltb (place (powers 1 255) (suc k)) 255) 255 ≡ true
unfolding place powers gf256_product poly_product reduced bit
placed = refl

-- the table of logarithms: for each code but 0, its place among the powers
unfoldable pub log_table : List ℕ
log_table = 0 ∷ map (place (powers 1 255)) (range_with_len 1 255)

pub table_log : (xs : List ℕ) (i a : ℕ) → i ≡ a → xs ≡ log_table → 0 < a → a < 256 → IsLog a (get_or xs i 0)
unfolding log_table
table_log xs i zero e all p h = absurd (not-suc-le-zero p)
table_log xs i (suc k) e all p h =
    subst (IsLog (suc k)) (sym (ap₂ (λ ys j. get_or ys j 0) all e ∙ get_or-map-range_with_len (place (powers 1 255)) 1 255 k (suc k) 0 (omega arith) (omega arith)))
    (record { is = there; least = less })
  where
    n : ℕ
    n = place (powers 1 255) (suc k)

    less : n < 255
    less = ltb-true _ _ (passes (λ j. ltb (place (powers 1 255) (suc j)) 255) 255 placed k (omega arith))

    there : power_of_3 n ≡ suc k
    there =
        sym (get_or_powers_one 255 n less)
        ∙ get_or_place (powers 1 255) (suc k) (subst (λ (m : ℕ). n < m) (sym (length_powers 1 255)) less)

-- the power of a sum of logarithms is the product
pub product_by_logs : (a b m n : ℕ) → IsLog a m → IsLog b n → power_of_3 (m + n) ≡ gf256_product a b
product_by_logs a b m n la lb = power_add 256 gf256_product gf256_products 3 m n (lit< tt) ∙ ap₂ gf256_product la.is lb.is

-- a product with 0 is 0
pub zero_product : (b : ℕ) → gf256_product 0 b ≡ 0
zero_product b = additive_zero (λ x. gf256_product x b) (product_left b)

pub product_zero : (a : ℕ) → gf256_product a 0 ≡ 0
product_zero a = additive_zero (gf256_product a) (product_right a)

power_255 : power_of_3 255 ≡ 1
unfolding power gf256_product poly_product reduced bit
power_255 = refl

-- the power at 255 less the logarithm is the inverse
pub inverse_by_log : (a n : ℕ) → 0 < a → a < 256 → IsLog a n → power_of_3 (255 - n) ≡ gf256.inverse a
inverse_by_log a n p h l =
    inverse_unique gf256 gf256_lawful a y p h (power_closed 256 gf256_product gf256_products 3 (255 - n) (lit< tt)) one
  where
    y : ℕ
    y = power_of_3 (255 - n)

    total : n + (255 - n) ≡ 255
    total = omega (arith, l.least)

    one : gf256_product a y ≡ 1
    one =
        ap (λ x. gf256_product x y) (sym l.is) ∙ sym (power_add 256 gf256_product gf256_products 3 n (255 - n) (lit< tt))
        ∙ ap power_of_3 total ∙ power_255
