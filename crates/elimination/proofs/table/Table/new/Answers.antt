use Rattle.std.proofs.Common.{◌≡◌, ℕ, ◌+◌, List, [], ◌∷◌, length, replicate, vec_items, vec_len, Vec, sym, refl, ap, ◌∙◌, subst, ap₂, inl, inr}
use Rattle.std.specs.List.{AllZip, AllClonesOf}
use Rattle.std.specs.declared.alloc.Global.{Global}
use Rattle.std.proofs.lemmas.List.{map-id}
use Rattle.std.proofs.lemmas.Slice.Zip.{AllZip-map}
use Rattle.elimination.specs.Reduction.{lists}
use Rattle.elimination.specs.Sound.{Sound}
use Rattle.elimination.proofs.Tabling.{sound_empty}
use Rattle.elimination.proofs.table.Table.new.Goals as goal

abbrev Clones : Vec ℕ Global → List (Vec ℕ Global) → Type 0
Clones row rows = AllClonesOf (λ v w. AllZip (λ a b. b ≡ a) (vec_items v) (vec_items w) × (vec_len w ≡ vec_len v)) row rows

-- clones of a row have its codes
cloned : (row : Vec ℕ Global) (rows : List (Vec ℕ Global)) → Clones row rows → lists rows ≡ replicate (length rows) (vec_items row)
cloned row [] all = refl
cloned row (y ∷ ys) all =
    ap₂ (λ x xs. x ∷ xs) (elim all.0 [ inl e ↦ ap vec_items e | inr z ↦ AllZip-map (λ x. x) (vec_items row) (vec_items y) z.0 ∙ map-id (vec_items row) ]) (cloned row ys all.1)

-- so n clones of zeros are an empty table's rows
empty : (zeros : Vec ℕ Global) (rows : Vec (Vec ℕ Global) Global) (n w : ℕ) → Clones zeros (vec_items rows) → vec_len rows ≡ n → vec_items zeros ≡ replicate w 0 → lists (vec_items rows) ≡ replicate n (replicate w 0)
empty zeros rows n w all long e = cloned zeros (vec_items rows) all ∙ ap₂ replicate (sym rows.ok.0 ∙ long) e

pub invariant_of-result : goal.invariant_of-result
invariant_of-result c =
    let n = c.args.shape.packets in
    let l = c.args.shape.symbols in
    let made = c.in_ok-rows.ensures in
    let rows = empty c.in_ok-zeros.zeros c.in_ok-rows.rows n (n + l) made.items made.len (c.in_ok-zeros.ensures.items_if_clones_equal (λ y e. e) ∙ ap (λ w. replicate w 0) c.width.ensures) in
    record {
      tall = made.len;
      sound = ∣ subst (Sound c.args.q n l) (sym rows) (sound_empty c.args.q n l c.requires) ∣₁;
    }

pub returns : goal.returns
returns c =
    let n = c.args.shape.packets in
    let l = c.args.shape.symbols in
    let made = c.in_ok-rows.ensures in
    let rows = empty c.in_ok-zeros.zeros c.in_ok-rows.rows n (n + l) made.items made.len (c.in_ok-zeros.ensures.items_if_clones_equal (λ y e. e) ∙ ap (λ w. replicate w 0) c.width.ensures) in
    record {
      size = refl;
      shape = refl;
      rows = rows;
      table = ap (λ rows. record { size = c.args.q; packets = n; symbols = l; rows = rows }) rows;
    }
