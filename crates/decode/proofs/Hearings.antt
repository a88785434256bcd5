-- Lines for frames, one after another. Assumes nothing.
use Rattle.std.proofs.Common.{◌≡◌, ℕ, zero, suc, ◌+◌, ◌-◌, ◌<◌, true, List, [], ◌∷◌, ◌++◌, get_or, replicate, is_some, vec_items, Some, None, Ok, Err, Option, Result, Vec, sym, refl, ap, ◌∙◌, subst, subst₂, inl, inr, arith}
use Rattle.std.specs.Bool.{then_some}
use Rattle.std.specs.Result.{is_ok}
use Rattle.std.specs.declared.alloc.Global.{Global}
use Rattle.std.proofs.lemmas.List.{get_or_append_left, get_or_push, length_push}
use Rattle.std.proofs.lemmas.Bool.{cases_eq}
use Rattle.elimination.specs.declared.fault.RowsFault.{RowsFault}
use Rattle.relay.specs.Calls.{Hears, seen_answer, Fetches}
use Rattle.relay.specs.Promise.{Hearing, Reached}
use Rattle.relay.specs.States.{State}
use Rattle.decode.specs.declared.decoding.Line.{Line}
use Rattle.decode.specs.Decoding.{Listed, hearings, ReadAs, ReadOff}

-- a started relay stays started
pub still : (s : Option State) (f : List ℕ) (r : Result ℕ RowsFault) (t : Option State) → is_some s ≡ true → Hears s f r t → is_some t ≡ true
still None f r t h heard = cc
still (Some s) f (Ok zero) t h heard = ap is_some heard.2
still (Some s) f (Ok (suc a)) t h heard = ap is_some heard.1.1.1
still (Some s) f (Err e) t h heard = ap is_some heard.1

-- one line more, at the end
pub listed_more : (s : Option State) (xs : List Line) (m : Option State) (x : Line) (t : Option State)
    → Listed s xs m → Hears m x.frame.now x.answer t → Ok x.seen ≡ seen_answer t → Listed s (xs ++ (x ∷ [])) t
listed_more s [] m x t same heard seen = (t, (subst (λ a. Hears a x.frame.now x.answer t) same heard, (seen, refl)))
listed_more s (y ∷ ys) m x t (next, (first, (set, rest))) heard seen = (next, (first, (set, listed_more next ys m x t rest heard seen)))

-- the hearings of a listing
pub reached_by : (s : Option State) (hs : List Hearing) (m : Option State) (xs : List Line) (t : Option State)
    → Reached s hs m → Listed m xs t → Reached s (hearings hs xs) t
reached_by s hs m [] t before same = subst (Reached s hs) (sym same) before
reached_by s hs m (x ∷ xs) t before (next, (heard, (seen, rest))) =
    reached_by s (record { frame = x.frame.now; answer = x.answer } ∷ hs) next xs t (m, (before, heard)) rest

unchanged : (s : Option State) (k : ℕ) (before after : List ℕ) (e : RowsFault) → Fetches s k before (Err e) after → after ≡ before
unchanged None k before after e fetched = fetched.1
unchanged (Some s) k before after e fetched = fetched.1

-- what is fetched into zeros is read, and what is refused is not
pub read_as : (s : Option State) (l k : ℕ) (r : Result (Unit {0}) RowsFault) (v : Vec ℕ Global) {zeros after : List ℕ}
    → zeros ≡ replicate l 0 → vec_items v ≡ after → Fetches s k zeros r after → ReadAs s l k (then_some (is_ok r) v)
read_as s l k (Ok _) v blank read fetched = subst₂ (λ b a. Fetches s k b (Ok tt) a) blank (sym read) fetched
read_as s l k (Err e) v blank read fetched = (e, subst₂ (λ b a. Fetches s k b (Err e) a) blank (unchanged s k _ _ e fetched ∙ blank) fetched)

pushed : (s : Option State) (l : ℕ) (ps : List (Option (Vec ℕ Global))) (n : ℕ) (p : Option (Vec ℕ Global)) → ReadOff s l ps n → ReadAs s l (n + 1) p → ReadOff s l (ps ++ (p ∷ [])) (n + 1)
pushed s l ps n p r next = record {
  long = length_push ps p ∙ ap (λ m. m + 1) r.long;
  each = λ k h. elim (cases_eq k n) [
    | inl e ↦ subst (λ (j : ℕ). ReadAs s l (j + 1) (get_or (ps ++ (p ∷ [])) j None)) (sym e) (subst (ReadAs s l (n + 1)) (sym (get_or_push ps p None n r.long)) next)
    | inr ne ↦ let less : k < n = omega arith in subst (ReadAs s l (k + 1)) (sym (get_or_append_left ps (p ∷ []) None k (omega (arith, less, r.long)))) (r.each k less)
  ];
}

-- one packet more is read, number k
pub read_more : (s : Option State) (l : ℕ) (ps : List (Option (Vec ℕ Global))) (k n : ℕ) (p : Option (Vec ℕ Global)) {qs : List (Option (Vec ℕ Global))}
    → qs ≡ ps ++ (p ∷ []) → 0 < k → k ≡ n → ReadOff s l ps (k - 1) → ReadAs s l k p → ReadOff s l qs n
read_more s l ps k n p all first last before here =
    let next : (k - 1) + 1 ≡ k = omega arith in
    subst₂ (ReadOff s l) (sym all) (next ∙ last) (pushed s l ps (k - 1) p before (subst (λ j. ReadAs s l j p) (sym next) here))
