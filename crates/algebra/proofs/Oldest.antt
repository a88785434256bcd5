-- The oldest unseen packet. Assumes nothing.
use Rattle.std.proofs.Common.{◌≡◌, ℕ, zero, suc, ◌<◌, ◌≤◌, ◌⊎◌, List, sym, subst, inl, inr, not-suc-le-zero, arith}
use Rattle.std.proofs.lemmas.Bool.{cases_eq, cases_lt}
use Rattle.field.specs.Fields.{Ops, Lawful}
use Rattle.algebra.specs.Packets.{Seen, OldestUnseen}
use Rattle.algebra.specs.Rows.{ReducedForm}
use Rattle.algebra.specs.Theorems.{OneOldest}
use Rattle.algebra.proofs.Forms.{seen_rows}

module _ (o : Ops) (laws : Lawful o) (n l : ℕ) (fs rs : List (List ℕ)) (form : ReducedForm o n l fs rs) where
  -- a packet is seen or not
  seen_or_not : (m : ℕ) → m < n → Seen o fs m ⊎ (Seen o fs m → ⊥)
  seen_or_not m h =
      elim (form.reduced.lead m h) [
        | inl one ↦ inl ((seen_rows o laws n l fs rs form m h).0 one)
        | inr none ↦ inr (λ s. absurd (omega (arith, none m, (seen_rows o laws n l fs rs form m h).1 s)))
      ]

  first : (a : ℕ) → a ≤ n → ((m : ℕ) → m < a → Seen o fs m) ⊎ ((m : ℕ) × OldestUnseen o fs a m)
  first zero h = inl (λ m g. absurd (not-suc-le-zero g))
  first (suc a) h =
      elim (first a (omega arith)) [
        | inr found ↦ inr (found.0, record { within = omega (arith, found.1.within); unseen = found.1.unseen; before = found.1.before })
        | inl all ↦ elim (seen_or_not a h) [
          | inl seen ↦ inl (λ m g. elim (cases_eq m a) [ inl e ↦ subst (Seen o fs) (sym e) seen | inr ne ↦ all m (omega arith) ])
          | inr unseen ↦ inr (a, record { within = omega arith; unseen = unseen; before = all })
        ]
      ]

  -- two oldest packets are one
  same_oldest : (a m k : ℕ) → OldestUnseen o fs a m → OldestUnseen o fs a k → k ≡ m
  same_oldest a m k x y =
      elim (cases_eq k m) [
        | inl e ↦ e
        | inr ne ↦ elim (cases_lt k m) [ inl less ↦ absurd (y.unseen (x.before k less)) | inr more ↦ absurd (x.unseen (y.before m (omega arith))) ]
      ]

pub one_oldest : OneOldest
one_oldest o laws n l fs rs form a h =
    elim (first o laws n l fs rs form a h) [
      | inl all ↦ inl all
      | inr found ↦ inr (found.0, (found.1, (λ k other. same_oldest o laws n l fs rs form a found.0 k found.1 other)))
    ]
