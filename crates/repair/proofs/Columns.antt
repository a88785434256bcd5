-- What a hole with a width prints, in the words of the specification. Assumes nothing.
use Rattle.std.proofs.Common.{◌≡◌, ◌-◌, ◌^◌, refl}
use lib.Utf8.{encode}
use Rattle.std.specs.Fmt.{format_spec, char_count, take_chars, padded}
use Rattle.repair.specs.declared.listing.Word.{Word}
use Rattle.repair.specs.declared.listing.Word.TheVariants.{Sent, Coded, Rebuilt}
use Rattle.repair.specs.Listing.{word_text, at_left}

-- `{:<8}` of a word
pub word_at_left : (w : Word) → padded (format_spec 32 1 0 8 (2 ^ 64 - 1)) (word_text w) ≡ at_left 8 (word_text w)
unfolding padded char_count take_chars encode
word_at_left Sent = refl
word_at_left Coded = refl
word_at_left Rebuilt = refl
