-- Texts written one after another. Assumes nothing.
use Rattle.std.proofs.Common.{◌≡◌, ℕ, ◌+◌, ◌<◌, List, [], ◌++◌, length, get_or, take, sym, ap, ◌∙◌}
use Rattle.std.proofs.Output.{has_written_append, has_written_of_eq}
use Rattle.std.proofs.lemmas.List.{take_more, flat_map_more}
use Rattle.std.specs.Fmt.{HasWritten}
use Rattle.std.specs.List.{flat_map}
use Rattle.std.specs.declared.fmt.Formatter.{Formatter}

-- the text of one item more is written
module _ {W X : Type 0} (took : W → List ℕ → W → Type 0) (text : X → List ℕ) where
  pub more_written : (xs : List X) (i : ℕ) (d : X) → i < length xs → {bs : List ℕ} → bs ≡ text (get_or xs i d) → {f g h : Formatter W}
      → HasWritten took f (flat_map text (take i xs)) g → HasWritten took g bs h → HasWritten took f (flat_map text (take (i + 1) xs)) h
  more_written xs i d here is before next =
      has_written_of_eq took _ _ _ _
      (ap (λ t. flat_map text (take i xs) ++ t) is ∙ flat_map_more text [] (take i xs) (get_or xs i d) ∙ ap (flat_map text) (sym (take_more xs i d here)))
      (has_written_append took _ _ _ _ _ before next)
