-- The set of seen packets, bit by bit. Assumes nothing.
use Rattle.std.proofs.Common.{◌≡◌, ℕ, ◌+◌, ◌*◌, ◌%◌, ◌^◌, ◌<◌, ◌≤◌, ◌⊎◌, List, sym, refl, ap, ◌∙◌, subst, ap₂, inl, inr, add-zero, mod-eq_of_lt, add_comm, one-mul, pow-suc, zero-mul, add-one, arith}
use lib.Bits.{bit_or, or_shifted_r}
use lib.Pow.{pow-lt}
use Rattle.algebra.specs.Rows.{row_at}
use Rattle.elimination.specs.Sound.{Sound}
use Rattle.elimination.specs.Tables.{seen_set}
use Rattle.elimination.proofs.Tabling.{sound_at}

-- s is the set of the first m packets
abbrev pub Counted : List (List ℕ) → ℕ → ℕ → Type 0
Counted rows m s = (s ≡ seen_set rows m) × (s < 2 ^ m)

doubled : (m : ℕ) → 2 ^ (m + 1) ≡ 2 ^ m + 2 ^ m
doubled m = ap (λ x. 2 ^ x) (add-one m) ∙ pow-suc 2 m ∙ omega arith

-- a packet that is seen adds its bit
pub counted_one : (rows : List (List ℕ)) (m s : ℕ) → m < 32 → Counted rows m s → row_at rows m m ≡ 1 → Counted rows (m + 1) (bit_or s ((1 * 2 ^ m) % 4294967296))
unfolding seen_set
counted_one rows m s h c e = (is, less)
  where
    bit : (1 * 2 ^ m) % 4294967296 ≡ 1 * 2 ^ m
    bit = mod-eq_of_lt (subst (λ (x : ℕ). x < 4294967296) (sym (one-mul (2 ^ m))) (pow-lt h))

    joined : bit_or s ((1 * 2 ^ m) % 4294967296) ≡ 1 * 2 ^ m + s
    joined = ap (bit_or s) bit ∙ or_shifted_r 1 m s c.1

    is : bit_or s ((1 * 2 ^ m) % 4294967296) ≡ seen_set rows (m + 1)
    is =
        joined ∙ add_comm (1 * 2 ^ m) s ∙ ap₂ (λ x y. x + y * 2 ^ m) c.0 (sym e) ∙ ap (seen_set rows) (sym (add-one m))

    less : bit_or s ((1 * 2 ^ m) % 4294967296) < 2 ^ (m + 1)
    less = omega (arith, joined, one-mul (2 ^ m), doubled m, c.1)

-- one that is not adds nothing
pub counted_none : (rows : List (List ℕ)) (m s : ℕ) → Counted rows m s → row_at rows m m ≡ 0 → Counted rows (m + 1) s
unfolding seen_set
counted_none rows m s c e = (
  c.0 ∙ sym (ap (seen_set rows) (add-one m) ∙ ap (λ y. seen_set rows m + y * 2 ^ m) e ∙ ap (λ y. seen_set rows m + y) (zero-mul (2 ^ m)) ∙ add-zero (seen_set rows m)),
  omega (arith, doubled m, c.1),
)

-- one turn of counting
pub counted_turn : (q n l : ℕ) (rows : List (List ℕ)) (m s t x : ℕ) → ∥ Sound q n l rows ∥₁ → m < n → n ≤ 32 → Counted rows m s → x ≡ row_at rows m m
    → ((x ≡ 0 → ⊥) × (t ≡ bit_or s ((1 * 2 ^ m) % 4294967296))) ⊎ ((x ≡ 0) × (t ≡ s)) → Counted rows (m + 1) t
counted_turn q n l rows m s t x sound h few c e (inl there) =
    let whole : Sound q n l rows = sound_at refl sound in
    subst (Counted rows (m + 1)) (sym there.1) (counted_one rows m s (omega (arith, h, few)) c (lead (whole.reduced.lead m h)))
  where
    lead : (row_at rows m m ≡ 1) ⊎ ((i : ℕ) → row_at rows m i ≡ 0) → row_at rows m m ≡ 1
    lead (inl one) = one
    lead (inr none) = absurd (there.0 (e ∙ none m))
counted_turn q n l rows m s t x sound h few c e (inr missing) =
    subst (Counted rows (m + 1)) (sym missing.1) (counted_none rows m s c (sym e ∙ missing.0))
