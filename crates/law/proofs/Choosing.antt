-- The choice of coefficients, packet after packet. Assumes nothing.
use Rattle.std.proofs.Common.{◌≡◌, ℕ, zero, suc, ◌<◌, ◌≤◌, ◌⊎◌, List, length, sym, refl, ap, ◌∙◌, subst, inl, inr, not-suc-le-zero, arith}
use Rattle.std.proofs.lemmas.Bool.{cases_eq, cases_lt}
use Rattle.field.specs.Fields.{Ops, Lawful}
use Rattle.law.specs.Choice.{Asked, Vetoed, Chosen, Records}
use Rattle.law.specs.Theorems.{OneChoice}
use Rattle.law.proofs.Oldests.{decide_asked}
use Rattle.law.proofs.Searching.{search_below}
use Rattle.law.proofs.Terms.{zero_code}
use Rattle.law.proofs.Vetoes.{vetoed_alike, decide_vetoed, free_code}

-- a function with another value at k
changed : (ℕ → ℕ) → ℕ → ℕ → ℕ → ℕ
changed f k v m = elim (cases_eq m k) [ inl _ ↦ v | inr _ ↦ f m ]

changed_here : (f : ℕ → ℕ) (k v : ℕ) → changed f k v k ≡ v
unfolding changed
changed_here f k v = elim (cases_eq k k) as (λ d. (elim d as (λ _. ℕ) [ inl _ ↦ v | inr _ ↦ f k ]) ≡ v) [ inl e ↦ refl | inr ne ↦ absurd (ne refl) ]

changed_there : (f : ℕ → ℕ) (k v m : ℕ) → (m ≡ k → ⊥) → changed f k v m ≡ f m
unfolding changed
changed_there f k v m ne = elim (cases_eq m k) as (λ d. (elim d as (λ _. ℕ) [ inl _ ↦ v | inr _ ↦ f m ]) ≡ f m) [ inl e ↦ absurd (ne e) | inr _ ↦ refl ]

-- the rule at one packet
record Right (o : Ops) (a : ℕ) (records : List (List (List ℕ))) (f : ℕ → ℕ) (k : ℕ) : Type 0 where
  free : Asked a records k → Vetoed o a records f k (f k) → ⊥
  smallest : Asked a records k → (code : ℕ) → code < f k → Vetoed o a records f k code
  others : (Asked a records k → ⊥) → f k ≡ 0

-- coefficients chosen by the rule below k, and 0 from there on
record Begun (o : Ops) (a : ℕ) (records : List (List (List ℕ))) (k : ℕ) : Type 0 where
  f : ℕ → ℕ
  codes : (m : ℕ) → f m < o.size
  right : (m : ℕ) → m < k → Right o a records f m
  later : (m : ℕ) → k ≤ m → f m ≡ 0

module _ (o : Ops) (laws : Lawful o) (n l a : ℕ) (fits : a ≤ n) (records : List (List (List ℕ))) (sound : Records o.size n l records) (few : length records ≤ o.size) where
  -- what the rule says at m depends on the coefficients up to m alone
  right_alike : (f g : ℕ → ℕ) (m : ℕ) → ((j : ℕ) → j ≤ m → f j ≡ g j) → Right o a records f m → Right o a records g m
  right_alike f g m same r = record {
    free = λ asked v. r.free asked (vetoed_alike o laws a records g f m (f m) (λ j h. sym (same j (omega arith))) (subst (Vetoed o a records g m) (sym (same m (omega arith))) v));
    smallest = λ asked code h. vetoed_alike o laws a records f g m code (λ j less. same j (omega arith)) (r.smallest asked code (omega (arith, same m (omega arith), h)));
    others = λ none. sym (same m (omega arith)) ∙ r.others none;
  }

  -- with a value at k that the rule allows there, one packet more is chosen
  with_value : (k : ℕ) (b : Begun o a records k) (v : ℕ) → v < o.size → (Asked a records k → Vetoed o a records b.f k v → ⊥)
      → (Asked a records k → (code : ℕ) → code < v → Vetoed o a records b.f k code) → ((Asked a records k → ⊥) → v ≡ 0) → Begun o a records (suc k)
  with_value k b v small free smallest others = record {
    f = g;
    codes = λ m. elim (cases_eq m k) [
      | inl e ↦ subst (λ (x : ℕ). x < o.size) (sym (ap g e ∙ here)) small
      | inr ne ↦ subst (λ (x : ℕ). x < o.size) (sym (changed_there b.f k v m ne)) (b.codes m)
    ];
    right = λ m h. elim (cases_eq m k) [
      | inl e ↦ subst (Right o a records g) (sym e) new
      | inr ne ↦ right_alike b.f g m (λ j low. sym (changed_there b.f k v j (λ z. omega arith))) (b.right m (omega arith))
    ];
    later = λ m h. changed_there b.f k v m (λ z. omega arith) ∙ b.later m (omega arith);
  }
    where
      g : ℕ → ℕ
      g = changed b.f k v

      here : g k ≡ v
      here = changed_here b.f k v

      below : (j : ℕ) → j < k → b.f j ≡ g j
      below j h = sym (changed_there b.f k v j (λ z. omega arith))

      new : Right o a records g k
      new = record {
        free = λ asked x. free asked (vetoed_alike o laws a records g b.f k v (λ j h. sym (below j h)) (subst (Vetoed o a records g k) here x));
        smallest = λ asked code h. vetoed_alike o laws a records b.f g k code below (smallest asked code (subst (λ (x : ℕ). code < x) here h));
        others = λ none. here ∙ others none;
      }

  -- a code is vetoed or not, so that the first free one can be found
  free_or_not : (f : ℕ → ℕ) (k c : ℕ) → Vetoed o a records f k c ⊎ (Vetoed o a records f k c → ⊥) → (Vetoed o a records f k c → ⊥) ⊎ ((Vetoed o a records f k c → ⊥) → ⊥)
  free_or_not f k c (inl v) = inr (λ none. none v)
  free_or_not f k c (inr none) = inl none

  vetoed_if : (f : ℕ → ℕ) (k c : ℕ) → Vetoed o a records f k c ⊎ (Vetoed o a records f k c → ⊥) → ((Vetoed o a records f k c → ⊥) → ⊥) → Vetoed o a records f k c
  vetoed_if f k c (inl v) h = v
  vetoed_if f k c (inr none) h = absurd (h none)

  begun : (k : ℕ) → Begun o a records k
  begun zero = record { f = λ _. 0; codes = λ m. zero_code o laws; right = λ m h. absurd (not-suc-le-zero h); later = λ m h. refl }
  begun (suc k) =
      let b = begun k in
      elim (decide_asked a records k) [
        | inr none ↦ with_value k b 0 (zero_code o laws) (λ asked. absurd (none asked)) (λ asked code h. absurd (not-suc-le-zero h)) (λ _. refl)
        | inl asked ↦ elim (search_below (λ c. Vetoed o a records b.f k c → ⊥) (λ c. free_or_not b.f k c (decide_vetoed o laws a records b.f k c)) o.size) [
          | inl found ↦ with_value k b found.at found.below (λ _. found.holds)
              (λ _ code h. vetoed_if b.f k code (decide_vetoed o laws a records b.f k code) (found.none_before code h)) (λ none. absurd (none asked))
          | inr none ↦ let free = free_code o laws n l a fits records sound few b.f b.codes (unasked k b) k asked in absurd (none free.0 free.1.0 free.1.1)
        ]
      ]
    where
      unasked : (k : ℕ) (b : Begun o a records k) (m : ℕ) → (Asked a records m → ⊥) → b.f m ≡ 0
      unasked k b m none = elim (cases_lt m k) [ inl h ↦ (b.right m h).others none | inr g ↦ b.later m g ]

  chosen : Chosen o a records (begun a).f
  chosen =
      let b = begun a in
      record {
        codes = b.codes;
        free = λ k asked. (b.right k asked.oldest.within).free asked;
        smallest = λ k asked. (b.right k asked.oldest.within).smallest asked;
        others = λ k none. elim (cases_lt k a) [ inl h ↦ (b.right k h).others none | inr g ↦ b.later k g ];
      }

  -- two choices are one
  module _ (f g : ℕ → ℕ) (cf : Chosen o a records f) (cg : Chosen o a records g) where
    same_at : (k : ℕ) → ((j : ℕ) → j < k → g j ≡ f j) → g k ≡ f k
    same_at k same =
        elim (decide_asked a records k) [
          | inr none ↦ cg.others k none ∙ sym (cf.others k none)
          | inl asked ↦ elim (cases_eq (g k) (f k)) [
            | inl e ↦ e
            | inr ne ↦ elim (cases_lt (g k) (f k)) [
              | inl less ↦ absurd (cg.free k asked (vetoed_alike o laws a records f g k (g k) (λ j h. sym (same j h)) (cf.smallest k asked (g k) less)))
              | inr more ↦ absurd (cf.free k asked (vetoed_alike o laws a records g f k (f k) same (cg.smallest k asked (f k) (omega arith))))
            ]
          ]
        ]

    same_below : (k j : ℕ) → j < k → g j ≡ f j
    same_below zero j h = absurd (not-suc-le-zero h)
    same_below (suc k) j h = elim (cases_eq j k) [ inl e ↦ subst (λ (i : ℕ). g i ≡ f i) (sym e) (same_at k (same_below k)) | inr ne ↦ same_below k j (omega arith) ]

pub one_choice : OneChoice
one_choice o laws n l a fits records sound few =
    let f = (begun o laws n l a fits records sound few a).f in
    let c = chosen o laws n l a fits records sound few in
    (f, (c, (λ g other k. same_below o laws n l a fits records sound few f g c other (suc k) k (omega arith))))
