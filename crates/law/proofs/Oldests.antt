-- The oldest unseen packet, by rows and by frames. Assumes nothing.
use Rattle.std.proofs.Common.{◌≡◌, ℕ, ◌<◌, ◌⊎◌, List, [], length, get_or, inl, inr, arith}
use Rattle.std.proofs.lemmas.Bool.{cases_eq, cases_lt}
use Rattle.algebra.specs.Rows.{row_at}
use Rattle.algebra.proofs.Forms.{seen_rows}
use Rattle.law.specs.Choice.{Oldest, Asked}
use Rattle.law.specs.Theorems.{OldestByRows}
use Rattle.law.proofs.Searching.{search_below}

pub oldest_by_rows : OldestByRows
oldest_by_rows o laws n l fs rows form a h k = (
  (λ x. let here : k < n = omega (arith, x.within) in
      record {
        within = x.within;
        unseen = λ s. x.missing ((seen_rows o laws n l fs rows form k here).1 s);
        before = λ m less. (seen_rows o laws n l fs rows form m (omega arith)).0 (x.before m less);
      }),
  (λ x. let here : k < n = omega (arith, x.within) in
      record {
        within = x.within;
        missing = λ e. x.unseen ((seen_rows o laws n l fs rows form k here).0 e);
        before = λ m less. (seen_rows o laws n l fs rows form m (omega arith)).1 (x.before m less);
      }),
)

-- a relay has one oldest unseen packet at most
pub same_oldest : (a : ℕ) (rows : List (List ℕ)) (k m : ℕ) → Oldest a rows k → Oldest a rows m → k ≡ m
same_oldest a rows k m x y =
    elim (cases_eq k m) [
      | inl e ↦ e
      | inr ne ↦ elim (cases_lt k m) [ inl less ↦ absurd (x.missing (y.before k less)) | inr more ↦ absurd (y.missing (x.before m (omega arith))) ]
    ]

-- whether packet k is a relay's oldest unseen one
pub decide_oldest : (a : ℕ) (rows : List (List ℕ)) (k : ℕ) → Oldest a rows k ⊎ (Oldest a rows k → ⊥)
decide_oldest a rows k =
    elim (cases_lt k a) [
      | inr more ↦ inr (λ x. omega (arith, x.within))
      | inl less ↦ elim (cases_eq (row_at rows k k) 1) [
        | inl there ↦ inr (λ x. x.missing there)
        | inr missing ↦ elim (search_below (λ m. row_at rows m m ≡ 1 → ⊥) (λ m. gap m (cases_eq (row_at rows m m) 1)) k) [
          | inl found ↦ inr (λ x. found.holds (x.before found.at found.below))
          | inr none ↦ inl (record { within = less; missing = missing; before = λ m h. known m (cases_eq (row_at rows m m) 1) (none m h) })
        ]
      ]
    ]
  where
    gap : (m : ℕ) → (row_at rows m m ≡ 1) ⊎ (row_at rows m m ≡ 1 → ⊥) → (row_at rows m m ≡ 1 → ⊥) ⊎ ((row_at rows m m ≡ 1 → ⊥) → ⊥)
    gap m (inl e) = inr (λ ne. ne e)
    gap m (inr ne) = inl ne

    known : (m : ℕ) → (row_at rows m m ≡ 1) ⊎ (row_at rows m m ≡ 1 → ⊥) → ((row_at rows m m ≡ 1 → ⊥) → ⊥) → row_at rows m m ≡ 1
    known m (inl e) h = e
    known m (inr ne) h = absurd (h ne)

-- whether packet k is asked for
pub decide_asked : (a : ℕ) (records : List (List (List ℕ))) (k : ℕ) → Asked a records k ⊎ (Asked a records k → ⊥)
decide_asked a records k =
    elim (search_below (λ i. Oldest a (get_or records i []) k) (λ i. decide_oldest a (get_or records i []) k) (length records)) [
      | inl found ↦ inl (record { relay = found.at; known = found.below; oldest = found.holds })
      | inr none ↦ inr (λ x. none x.relay x.known x.oldest)
    ]
