-- What the program lists of a repair. Assumes nothing.
use Rattle.std.specs.Prelude.{◌≡◌, ℕ, ◌-◌, List, [], ◌∷◌, ◌++◌, length, replicate, Option, Some, None, codes, slice_index_or}
use Rattle.printing.specs.Codes.{codes_text}
use Rattle.repair.specs.Coding.{coefficients, packets}
use Rattle.repair.specs.declared.coding.Load.{Load}
use Rattle.repair.specs.declared.coding.Repaired.{Repaired}
use Rattle.repair.specs.declared.listing.Line.{Line}
use Rattle.repair.specs.declared.listing.Remark.{Remark}
use Rattle.repair.specs.declared.listing.Remark.TheVariants.{Lost, Equal, Different}
use Rattle.repair.specs.declared.listing.Word.{Word}
use Rattle.repair.specs.declared.listing.Word.TheVariants.{Sent, Coded, Rebuilt}

-- what a frame is, in a word
abbrev pub word_text : Word → List ℕ
word_text Sent = codes "sent"
word_text Coded = codes "coded"
word_text Rebuilt = codes "rebuilt"

-- a remark, set off by two spaces
abbrev pub remark_text : Remark → List ℕ
remark_text Lost = codes "  lost on the way"
remark_text Equal = codes "  equals what was sent"
remark_text Different = codes "  differs from what was sent"

-- what ends a line: a remark, or nothing
abbrev pub end_text : Option Remark → List ℕ
end_text None = []
end_text (Some r) = remark_text r

-- a text at the left of a column of n places, filled up with spaces
abbrev pub at_left : ℕ → List ℕ → List ℕ
at_left n text = text ++ replicate (n - length text) 32

-- a line as it is printed, in columns: the word, the codes of the frame, the remark
abbrev pub line_text : Line → List ℕ
line_text line = codes "  " ++ (at_left 8 (word_text line.word) ++ (codes_text line.frame ++ end_text line.remark))

-- a line: what the frame is, its coefficients and symbols, and a remark
abbrev pub line_of : Word → List ℕ → List ℕ → Option Remark → Line
line_of w cs symbols r = record { word = w; frame = cs ++ symbols; remark = r }

-- the remark on a rebuilt packet is right
abbrev pub Compared : List ℕ → List ℕ → Remark → Type 0
Compared rebuilt sent Lost = ⊥
Compared rebuilt sent Equal = rebuilt ≡ sent
Compared rebuilt sent Different = rebuilt ≡ sent → ⊥

-- the frames of a load with its second packet lost: three sent, one coded, one rebuilt, each with its remark
pub record Listed (load : Load) (repaired : Repaired) (lines : List Line) : Type 0 where
  pub remark : Remark
  pub right : Compared repaired.rebuilt (slice_index_or (packets load.terms) 1 []) remark
  pub are : lines ≡ line_of Sent (1 ∷ 0 ∷ 0 ∷ []) (slice_index_or (packets load.terms) 0 []) None
      ∷ line_of Sent (0 ∷ 1 ∷ 0 ∷ []) (slice_index_or (packets load.terms) 1 []) (Some Lost)
      ∷ line_of Sent (0 ∷ 0 ∷ 1 ∷ []) (slice_index_or (packets load.terms) 2 []) None
      ∷ line_of Coded (coefficients load.terms) repaired.coded None
      ∷ line_of Rebuilt (0 ∷ 1 ∷ 0 ∷ []) repaired.rebuilt (Some remark)
      ∷ []
