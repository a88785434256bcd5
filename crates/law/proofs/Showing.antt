-- A frame that nobody vetoes shows the oldest unseen packet. Assumes nothing.
use Rattle.std.proofs.Common.{◌≡◌, ℕ, zero, suc, ◌+◌, ◌-◌, ◌<◌, ◌≤◌, List, [], ◌∷◌, map, length, get_or, sym, ap, ◌∙◌, subst, inl, inr, le_of_suc-le-suc, arith}
use Rattle.std.proofs.lemmas.Bool.{cases_eq}
use Rattle.field.specs.Fields.{Ops, Lawful}
use Rattle.field.proofs.Arithmetic.{one-mul, mul-zero}
use Rattle.field.proofs.Elements.{Element, same_code}
use Rattle.algebra.specs.Frames.{code_at, Codes, Frame, summed}
use Rattle.algebra.specs.Packets.{Seen}
use Rattle.algebra.specs.Rows.{row_at, ReducedForm}
use Rattle.algebra.proofs.Bridge.{k, table, vector, all_codes, span_down}
use Rattle.algebra.proofs.Forms.{reduced, stands, at, rest_code}
use Rattle.algebra.proofs.Insertion.{rest, rest_lead}
use Rattle.algebra.proofs.Tables.{image, image_fixed}
use Rattle.algebra.proofs.Vectors.{Vector, same, minus, Span, span_linear, span_more, span_first}
use Rattle.law.specs.Choice.{Oldest, veto_at}
use Rattle.law.specs.Theorems.{ShowsOldest}
use Rattle.law.proofs.Oldests.{oldest_by_rows}
use Rattle.law.proofs.Terms.{zero_code, times_zero, summed_closed, summed_cut}
use Rattle.law.proofs.Vetoes.{row_small}

module _ (o : Ops) (laws : Lawful o) (n l : ℕ) (fs rows : List (List ℕ)) (form : ReducedForm o n l fs rows) (f : List ℕ) (frame : Frame o.size (n + l) f)
    (a : ℕ) (fits : a ≤ n) (u : ℕ) (oldest : Oldest a rows u) (unvetoed : code_at f u ≡ veto_at o rows (code_at f) u → ⊥) where
  within : u < n
  within = omega (arith, oldest.within)

  left : Vector (Element o)
  left = rest (k o laws) n (table o laws rows) (reduced o laws n l fs rows form) (vector o laws f)

  -- rows with a lead from u on have nothing at u
  none_after : (m : ℕ) → u ≤ m → m < n → row_at rows m u ≡ 0
  none_after m low h =
      elim (cases_eq m u) [
        | inl e ↦ elim (form.reduced.lead m h) [ inl one ↦ absurd (oldest.missing (subst (λ (j : ℕ). row_at rows j j ≡ 1) e one)) | inr blank ↦ blank u ]
        | inr ne ↦ form.reduced.before m u h (omega arith)
      ]

  -- so what is left at u is the coefficient there less the sum vetoed
  term : ℕ → ℕ
  term m = o.product (code_at f m) (row_at rows m u)

  f_small : (m : ℕ) → code_at f m < o.size
  f_small = all_codes o laws f frame.codes

  vetoed_is : summed o n term ≡ veto_at o rows (code_at f) u
  unfolding term
  vetoed_is =
      let split : n ≡ u + (n - u) = omega (arith, within) in
      ap (λ i. summed o i (λ m. o.product (code_at f m) (row_at rows m u))) split
      ∙ summed_cut o laws u (n - u) (λ m. o.product (code_at f m) (row_at rows m u))
      (λ m h. laws.product_closed _ _ (f_small m) (row_small l form.rows_frames form.reduced m u (omega (arith, within)) within))
      (λ m low h. ap (o.product (code_at f m)) (none_after m low (omega (arith, within))) ∙ times_zero o laws (code_at f m) (f_small m))

  total : ℕ
  total = summed o n term

  total_small : total < o.size
  unfolding total term
  total_small = summed_closed o laws n (λ m. o.product (code_at f m) (row_at rows m u)) (λ m h. laws.product_closed _ _ (f_small m) (row_small l form.rows_frames form.reduced m u h within))

  remains : left u ≡ (k o laws).zero → ⊥
  unfolding left total term
  remains e =
      let nothing : o.difference (code_at f u) total ≡ 0 = sym (rest_code o laws n l fs rows form f frame.codes u) ∙ ap (λ x. x.0) e in
      unvetoed (sym (laws.difference_sum (code_at f u) total (f_small u) total_small) ∙ ap (λ x. o.sum x total) nothing
      ∙ laws.sum_comm 0 total (zero_code o laws) total_small ∙ laws.sum_zero total total_small ∙ vetoed_is)

  -- what is left, scaled to 1 at u, is in the span of the frame and the others
  scaled : Vector (Element o)
  scaled i = (k o laws).mul ((k o laws).inv (left u)) (left i)

  spans : Span (k o laws) (vector o laws f ∷ map (vector o laws) fs) scaled
  unfolding scaled left
  spans =
      let t = table o laws rows in
      let v = vector o laws f in
      let gs = map (vector o laws) fs in
      let made = image (k o laws) n t v in
      let line = span_linear (k o laws) (v ∷ gs) in
      line.times ((k o laws).inv (left u)) left
      (same (k o laws) (Span (k o laws) (v ∷ gs)) (λ i. (k o laws).sub (v i) ((k o laws).mul (k o laws).one (made i))) left
      (λ i. ap ((k o laws).sub (v i)) (one-mul (k o laws) (made i)))
      (minus (k o laws) (Span (k o laws) (v ∷ gs)) line (k o laws).one v made (span_first (k o laws) v gs)
      (span_more (k o laws) v gs made ((stands o laws n l fs rows form).down made (image_fixed (k o laws) n t (reduced o laws n l fs rows form) v)))))

  codes_of : (m : ℕ) → m < length (f ∷ fs) → Codes o.size (get_or (f ∷ fs) m [])
  codes_of zero h = frame.codes
  codes_of (suc m) h = (form.frames m (le_of_suc-le-suc h)).codes

  shown : Seen o (f ∷ fs) u
  unfolding scaled left
  shown = record {
    vector = λ i. (scaled i).0;
    codes = λ i. (scaled i).1;
    inside = span_down o laws (f ∷ fs) codes_of scaled spans;
    one_there = ap (λ x. x.0) ((k o laws).mul_comm ((k o laws).inv (left u)) (left u) ∙ (k o laws).mul_inv (left u) remains);
    zero_before = λ i h. ap (λ x. x.0) (ap ((k o laws).mul ((k o laws).inv (left u)))
        (rest_lead (k o laws) n (table o laws rows) (reduced o laws n l fs rows form) (vector o laws f) i (omega (arith, within)) (same_code (at o laws n l fs rows form i i ∙ oldest.before i h)))
        ∙ mul-zero (k o laws) ((k o laws).inv (left u)));
  }

pub shows_oldest : ShowsOldest
shows_oldest o laws n l fs rows form f frame a fits u oldest unvetoed =
    shown o laws n l fs rows form f frame a fits u ((oldest_by_rows o laws n l fs rows form a fits u).1 oldest) unvetoed
