-- Whole frames cut off a list of codes. Assumes nothing.
use Rattle.std.proofs.Common.{◌≡◌, ℕ, ◌/◌, ◌<◌, List, [], ◌∷◌, ◌++◌, length, length-append, sym, ap, ◌∙◌, ap₂, subst, add-one, append_assoc, vec_items, Vec}
use Rattle.std.proofs.Math.Nat.{div-eq_of_lt, add-div_left}
use Rattle.std.proofs.Math.Seq.{take-append_seam, drop-append_seam}
use Rattle.std.specs.Simd.{first_chunks}
use Rattle.std.specs.declared.alloc.Global.{Global}
use Rattle.std.proofs.lemmas.List.{map_push}
use Rattle.elimination.specs.Reduction.{lists}
use Rattle.decode.specs.Recordings.{frames_of}

-- codes that fill no frame hold none
pub frames_none : (codes : List ℕ) (w : ℕ) → length codes < w → frames_of codes w ≡ []
frames_none codes w h = ap (λ n. first_chunks w n codes) (div-eq_of_lt h)

front : (f codes : List ℕ) → 0 < length f → frames_of (f ++ codes) (length f) ≡ f ∷ frames_of codes (length f)
front f codes some =
    let w = length f in
    ap (λ n. first_chunks w n (f ++ codes)) (ap (λ n. n / w) (length-append f codes) ∙ add-div_left (length codes) some ∙ add-one (length codes / w))
    ∙ ap₂ (λ x xs. x ∷ first_chunks w (length codes / w) xs) (take-append_seam f codes) (drop-append_seam f codes)

-- the frame at the front, and the frames of the rest
pub frames_more : (f codes : List ℕ) (w : ℕ) → 0 < w → length f ≡ w → frames_of (f ++ codes) w ≡ f ∷ frames_of codes w
frames_more f codes w some long = subst (λ n. 0 < n → frames_of (f ++ codes) n ≡ f ∷ frames_of codes n) long (front f codes) some

-- some frames are cut, and one more is cut off the rest
pub frames_turn : (codes rest next f : List ℕ) (frames more : List (Vec ℕ Global)) (v : Vec ℕ Global) (w : ℕ)
    → more ≡ frames ++ (v ∷ []) → vec_items v ≡ f → rest ≡ f ++ next → length f ≡ w → 0 < w
    → frames_of codes w ≡ lists frames ++ frames_of rest w → frames_of codes w ≡ lists more ++ frames_of next w
frames_turn codes rest next f frames more v w pushed kept cut long some before =
    before ∙ ap (λ xs. lists frames ++ xs) (ap (λ xs. frames_of xs w) cut ∙ frames_more f next w some long)
    ∙ sym (ap (λ xs. xs ++ frames_of next w) (ap lists pushed ∙ map_push vec_items frames v ∙ ap (λ x. lists frames ++ (x ∷ [])) kept) ∙ append_assoc (lists frames) (f ∷ []) (frames_of next w))
