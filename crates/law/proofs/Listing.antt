-- The sum vetoed, over the packets that are asked for. Assumes nothing.
use Rattle.std.proofs.Common.{◌≡◌, ℕ, zero, suc, ◌<◌, ◌≤◌, List, [], length, get_or, sym, refl, ap, ◌∙◌, subst, ap₂, inl, inr, not-suc-le-zero, arith}
use Rattle.std.proofs.lemmas.Bool.{cases_eq, cases_lt}
use Rattle.field.specs.Fields.{Ops, Lawful}
use Rattle.algebra.specs.Frames.{summed}
use Rattle.algebra.specs.Rows.{row_at}
use Rattle.law.specs.Choice.{Asked, AskedInOrder}
use Rattle.law.specs.Theorems.{VetoByList}
use Rattle.law.proofs.Oldests.{decide_asked}
use Rattle.law.proofs.Terms.{zero_times, summed_closed}
use Rattle.law.proofs.Vetoes.{row_small}

module _ (o : Ops) (laws : Lawful o) (a : ℕ) (records : List (List (List ℕ))) (us : List ℕ) (order : AskedInOrder a records us)
    (g : ℕ → ℕ) (top : ℕ) (codes : (m : ℕ) → m < top → g m < o.size) (none : (m : ℕ) → m < top → (Asked a records m → ⊥) → g m ≡ 0) where
  -- of the packets asked for, the first j are those below b
  record Cut (b j : ℕ) : Type 0 where
    within : j ≤ length us
    low : (i : ℕ) → i < j → get_or us i 0 < b
    high : (i : ℕ) → j ≤ i → i < length us → b ≤ get_or us i 0

  -- a packet that is asked for and stands right below the cut is the last of them
  last_is : (b j : ℕ) → Cut (suc b) j → Asked a records b → (i : ℕ) × ((j ≡ suc i) × ((get_or us i 0 ≡ b) × Cut b i))
  last_is b j cut asked =
      let found = order.all b asked in
      let i = found.0 in
      let here : i < j = elim (cases_lt i j) [ inl h ↦ h | inr h ↦ absurd (omega (arith, cut.high i h found.1.0, found.1.1)) ] in
      let end : j ≡ suc i = elim (cases_lt (suc i) j) [
        | inl more ↦ absurd (omega (arith, order.ascending i (suc i) (omega arith) (omega (arith, cut.within, more)), cut.low (suc i) more, found.1.1))
        | inr h ↦ omega arith
      ] in (
        i,
        (
          end,
          (
            found.1.1,
            record {
              within = omega (arith, found.1.0);
              low = λ m h. omega (arith, order.ascending m i h found.1.0, found.1.1);
              high = λ m h hm. elim (cases_eq m i) [ inl e ↦ omega (arith, ap (λ x. get_or us x 0) e, found.1.1) | inr ne ↦ omega (arith, order.ascending i m (omega arith) hm, found.1.1) ];
            },
          ),
        ),
      )

  by_list : (b j : ℕ) → b ≤ top → Cut b j → summed o b g ≡ summed o j (λ i. g (get_or us i 0))
  unfolding summed
  by_list zero zero h cut = refl
  by_list zero (suc j) h cut = absurd (not-suc-le-zero (cut.low j (omega arith)))
  by_list (suc b) j h cut =
      elim (decide_asked a records b) [
        | inl asked ↦ let last = last_is b j cut asked in
            ap₂ o.sum (by_list b last.0 (omega arith) last.1.1.1) (ap g (sym last.1.1.0)) ∙ ap (λ m. summed o m (λ i. g (get_or us i 0))) (sym last.1.0)
        | inr unasked ↦ ap (o.sum (summed o b g)) (none b h unasked) ∙ laws.sum_zero _ (summed_closed o laws b g (λ m less. codes m (omega arith)))
            ∙ by_list b j (omega arith)
            (record {
              within = cut.within;
              low = λ i less. below i (cut.low i less) (λ e. unasked (subst (Asked a records) e (order.each i (omega (arith, cut.within)))));
              high = λ i low less. omega (arith, cut.high i low less);
            })
      ]
    where
      below : (i : ℕ) → get_or us i 0 < suc b → (get_or us i 0 ≡ b → ⊥) → get_or us i 0 < b
      below i less ne = omega arith

pub veto_by_list : VetoByList
veto_by_list o laws n l a fits records sound f chosen us order i known j hj =
    let rows = get_or records i [] in
    let k = get_or us j 0 in
    let asked = order.each j hj in
    let small : k < n = omega (arith, asked.oldest.within) in
    by_list o laws a records us order (λ m. o.product (f m) (row_at rows m k)) k
    (λ m h. laws.product_closed _ _ (chosen.codes m) (row_small l (sound i known).0 (sound i known).1 m k (omega arith) small))
    (λ m h unasked. ap (λ x. o.product x (row_at rows m k)) (chosen.others m unasked) ∙ zero_times o laws (row_at rows m k) (row_small l (sound i known).0 (sound i known).1 m k (omega arith) small))
    k j (omega arith)
    (record {
      within = omega arith;
      low = λ m h. order.ascending m j h hj;
      high = λ m h hm. elim (cases_eq m j) [ inl e ↦ omega (arith, ap (λ x. get_or us x 0) e) | inr ne ↦ omega (arith, order.ascending j m (omega arith) hm) ];
    })
