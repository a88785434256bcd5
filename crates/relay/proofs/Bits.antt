-- The bits of the set of seen packets. Assumes nothing.
use Rattle.std.proofs.Common.{◌≡◌, ℕ, zero, suc, ◌+◌, ◌-◌, ◌*◌, ◌/◌, ◌%◌, ◌^◌, ◌<◌, ◌≤◌, ◌↔◌, List, sym, ap, ◌∙◌, inl, inr, not-suc-le-zero, mul-le-mul_right, mod-eq_of_lt, mul_assoc, add_comm, one-mul, pow-suc, arith}
use native.Mathlib.Nat.{add-mul-div_right, add-mul-mod_self_right}
use Rattle.std.proofs.lemmas.Nat.{pow_pos, pow-add, shr_high}
use Rattle.std.proofs.lemmas.Bool.{cases_eq}
use Rattle.algebra.specs.Rows.{row_at, Reduced}
use Rattle.elimination.specs.Tables.{seen_set}
use Rattle.relay.specs.Promise.{Has}

module _ (n : ℕ) (rows : List (List ℕ)) (r : Reduced n rows) where
  -- a row has 1 or 0 at its lead
  lead_small : (m : ℕ) → m < n → row_at rows m m < 2
  lead_small m h = elim (r.lead m h) [ inl one ↦ omega (arith, one) | inr none ↦ omega (arith, none m) ]

  pub seen_below : (m : ℕ) → m ≤ n → seen_set rows m < 2 ^ m
  unfolding seen_set
  seen_below zero h = omega arith
  seen_below (suc m) h =
      let lead = lead_small m h in
      let most : row_at rows m m * 2 ^ m ≤ 1 * 2 ^ m = mul-le-mul_right (2 ^ m) (omega arith) in
      omega (arith, seen_below m (omega arith), most, one-mul (2 ^ m), pow-suc 2 m)

  -- 2 to the power j, past m: an even multiple of 2 to the power m
  even_part : (m j x : ℕ) → m < j → x * 2 ^ j ≡ x * 2 ^ (j - m - 1) * 2 * 2 ^ m
  even_part m j x h =
      let split : j ≡ j - m - 1 + 1 + m = omega arith in
      ap (λ p. x * p) (ap (λ i. 2 ^ i) split ∙ pow-add 2 (j - m - 1 + 1) m ∙ ap (λ p. p * 2 ^ m) (pow-add 2 (j - m - 1) 1))
      ∙ sym (mul_assoc x (2 ^ (j - m - 1) * 2) (2 ^ m)) ∙ ap (λ p. p * 2 ^ m) (sym (mul_assoc x (2 ^ (j - m - 1)) 2))

  bit_is : (m j : ℕ) → m < j → j ≤ n → seen_set rows j / 2 ^ m % 2 ≡ row_at rows m m
  unfolding seen_set
  bit_is m zero h g = absurd (not-suc-le-zero h)
  bit_is m (suc j) h g =
      elim (cases_eq m j) [
        | inl e ↦ ap (λ i. (seen_set rows j + row_at rows j j * 2 ^ j) / 2 ^ i % 2) e
            ∙ ap (λ x. x / 2 ^ j % 2) (add_comm (seen_set rows j) (row_at rows j j * 2 ^ j))
            ∙ ap (λ x. x % 2) (shr_high (row_at rows j j) j (seen_set rows j) (seen_below j (omega arith)))
            ∙ mod-eq_of_lt (lead_small j g) ∙ ap (λ i. row_at rows i i) (sym e)
        | inr ne ↦ let less : m < j = omega arith in
            let y = row_at rows j j * 2 ^ (j - m - 1) in
            ap (λ x. (seen_set rows j + x) / 2 ^ m % 2) (even_part m j (row_at rows j j) less)
            ∙ ap (λ x. x % 2) (add-mul-div_right (seen_set rows j) (y * 2) (pow_pos m))
            ∙ add-mul-mod_self_right (seen_set rows j / 2 ^ m) y 2 ∙ bit_is m j less (omega arith)
      ]

  pub seen_bit : (m : ℕ) → m < n → Has (seen_set rows n) m ↔ (row_at rows m m ≡ 1)
  seen_bit m h = let e = bit_is m n h (omega arith) in ((λ b. sym e ∙ b), (λ b. e ∙ b))
