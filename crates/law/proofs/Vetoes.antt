-- Vetoed codes, and a code that is free. Assumes nothing.
use Rattle.std.proofs.Common.{◌≡◌, ℕ, ◌+◌, ◌<◌, ◌⊎◌, List, [], length, get_or, sym, ap, ◌∙◌, subst, inl, inr, arith}
use Rattle.std.proofs.lemmas.Bool.{cases_eq}
use Rattle.field.specs.Fields.{Ops, Lawful}
use Rattle.algebra.specs.Frames.{Frames}
use Rattle.algebra.specs.Rows.{row_at, Reduced}
use Rattle.law.specs.Choice.{Oldest, Asked, veto_at, Vetoed}
use Rattle.law.specs.Theorems.{FreeCode}
use Rattle.law.proofs.Oldests.{same_oldest, decide_oldest, decide_asked}
use Rattle.law.proofs.Pigeons.{free_value}
use Rattle.law.proofs.Searching.{search_below}
use Rattle.law.proofs.Terms.{zero_times, summed_zero, summed_alike}

-- a code of a reduced table
pub row_small : {q n : ℕ} (l : ℕ) {rows : List (List ℕ)} → Frames q (n + l) rows → Reduced n rows → (m k : ℕ) → m < n → k < n → row_at rows m k < q
row_small {q} {n} l {rows} frames reduced m k hm hk =
    let here : m < length rows = subst (λ (x : ℕ). m < x) (sym reduced.tall) hm in
    (frames m here).codes k (subst (λ (w : ℕ). k < w) (sym (frames m here).long) (omega arith))

-- the sum vetoed depends on the coefficients before the packet alone
pub veto_alike : (o : Ops) → Lawful o → (rows : List (List ℕ)) (f g : ℕ → ℕ) (k : ℕ) → ((m : ℕ) → m < k → f m ≡ g m) → veto_at o rows f k ≡ veto_at o rows g k
veto_alike o laws rows f g k same =
    summed_alike o laws k (λ m. o.product (f m) (row_at rows m k)) (λ m. o.product (g m) (row_at rows m k)) (λ m h. ap (λ x. o.product x (row_at rows m k)) (same m h))

module _ (o : Ops) (laws : Lawful o) (a : ℕ) (records : List (List (List ℕ))) where
  pub vetoed_alike : (f g : ℕ → ℕ) (k code : ℕ) → ((m : ℕ) → m < k → f m ≡ g m) → Vetoed o a records f k code → Vetoed o a records g k code
  vetoed_alike f g k code same v =
      record { relay = v.relay; known = v.known; oldest = v.oldest; is = v.is ∙ veto_alike o laws (get_or records v.relay []) f g k same }

  -- whether a code is vetoed
  pub decide_vetoed : (f : ℕ → ℕ) (k code : ℕ) → Vetoed o a records f k code ⊎ (Vetoed o a records f k code → ⊥)
  decide_vetoed f k code =
      elim (search_below (λ i. Oldest a (get_or records i []) k × (code ≡ veto_at o (get_or records i []) f k))
      (λ i. both (decide_oldest a (get_or records i []) k) (cases_eq code (veto_at o (get_or records i []) f k))) (length records)) [
        | inl found ↦ inl (record { relay = found.at; known = found.below; oldest = found.holds.0; is = found.holds.1 })
        | inr none ↦ inr (λ v. none v.relay v.known (v.oldest, v.is))
      ]
    where
      both : {A B : Type 0} → A ⊎ (A → ⊥) → B ⊎ (B → ⊥) → (A × B) ⊎ (A × B → ⊥)
      both (inl x) (inl y) = inl (x, y)
      both (inl x) (inr no-y) = inr (λ p. no-y p.1)
      both (inr no-x) d = inr (λ p. no-x p.0)

pub free_code : FreeCode
free_code o laws n l a h records sound few f codes others k asked =
    elim (search_below (Asked a records) (decide_asked a records) k) [
      | inl found ↦ let other = found.holds in
          let free = free_value (λ i. Oldest a (get_or records i []) k) (λ i. decide_oldest a (get_or records i []) k) (λ i. veto_at o (get_or records i []) f k) (length records) o.size few
          other.relay other.known
          (λ x. omega (arith, found.below, same_oldest a (get_or records other.relay []) k found.at x other.oldest)) in
          (free.0, (free.1.0, (λ v. free.1.1 v.relay v.known v.oldest (sym v.is))))
      | inr none ↦ (1, (laws.size_least, (λ v. omega (arith, v.is, nothing v.relay v.known none))))
    ]
  where
    nothing : (i : ℕ) → i < length records → ((m : ℕ) → m < k → Asked a records m → ⊥) → veto_at o (get_or records i []) f k ≡ 0
    nothing i known none =
        summed_zero o laws k (λ m. o.product (f m) (row_at (get_or records i []) m k))
        (λ m less. ap (λ x. o.product x (row_at (get_or records i []) m k)) (others m (none m less))
        ∙ zero_times o laws (row_at (get_or records i []) m k)
        (row_small l (sound i known).0 (sound i known).1 m k (omega (arith, asked.oldest.within)) (omega (arith, asked.oldest.within))))
