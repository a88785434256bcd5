-- A sum of products, term after term. Assumes nothing.
use Rattle.std.proofs.Common.{◌≡◌, ℕ, ◌+◌, ◌<◌, List, Ok, sym, refl, ap, ◌∙◌, subst, ap₂, le_trans, add-one, lit≤}
use Rattle.field.specs.Fields.{Ops, Lawful}
use Rattle.field.specs.Answers.{sum_answer, product_answer}
use Rattle.field.proofs.Answered.{answered_two}
use Rattle.algebra.specs.Frames.{code_at, summed}

module _ (o : Ops) (a b : List ℕ) where
  -- the first i products are summed
  pub record Summed (i sum : ℕ) : Type 0 where
    pub is : sum ≡ summed o i (λ m. o.product (code_at a m) (code_at b m))
    pub code : sum < o.size

  pub summed_none : Lawful o → Summed 0 0
  unfolding summed
  summed_none laws = record { is = refl; code = le_trans (lit≤ tt) laws.size_least }

  pub summed_more : (i sum product next : ℕ) → Summed i sum → product ≡ o.product (code_at a i) (code_at b i) → next ≡ o.sum sum product → next < o.size → Summed (i + 1) next
  unfolding summed
  summed_more i sum product next s p e code = record {
    is = e ∙ ap₂ o.sum s.is p ∙ ap (λ n. summed o n (λ m. o.product (code_at a m) (code_at b m))) (sym (add-one i));
    code = code;
  }

  -- the same by the answers of a field's calls
  pub summed_answered : Lawful o → (i sum product next : ℕ) → code_at a i < o.size → code_at b i < o.size → Summed i sum
      → Ok product ≡ product_answer o (code_at a i) (code_at b i) → Ok next ≡ sum_answer o sum product → Summed (i + 1) next
  summed_answered laws i sum product next ha hb s by_product by_sum =
      let p = answered_two o.size o.product (code_at a i) (code_at b i) product ha hb by_product in
      let hp = subst (λ (x : ℕ). x < o.size) (sym p) (laws.product_closed _ _ ha hb) in
      let e = answered_two o.size o.sum sum product next s.code hp by_sum in
      summed_more i sum product next s p e (subst (λ (x : ℕ). x < o.size) (sym e) (laws.sum_closed _ _ s.code hp))
