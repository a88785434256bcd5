-- What the program writes of a decoding, byte by byte; 10 ends a line. Assumes nothing.
use Rattle.std.specs.Prelude.{◌≡◌, ℕ, ◌+◌, ◌/◌, ◌%◌, ◌^◌, cond, List, [], ◌∷◌, ◌++◌, Some, None, Ok, Err, vec_items, codes, decimal, Option, Result, Vec, ◌==◌}
use Rattle.std.specs.List.{flat_map, range_with_len, enumerate_from}
use Rattle.std.specs.declared.alloc.Global.{Global}
use Rattle.faults.specs.Refusals.{refusal_text}
use Rattle.field.specs.Fields.{Ops}
use Rattle.elimination.specs.Faults.{rows_refusal}
use Rattle.elimination.specs.declared.fault.RowsFault.{RowsFault}
use Rattle.printing.specs.Codes.{codes_text}
use Rattle.decode.specs.declared.decoding.Decoding.{Decoding}
use Rattle.decode.specs.declared.decoding.Line.{Line}
use Rattle.decode.specs.Decoding.{Decodes}
use Rattle.decode.specs.Recordings.{recorded}

abbrev pub line_end : List ℕ
line_end = 10 ∷ []

-- what a frame was answered: the packet newly seen, or 0, or a refusal
abbrev pub answer_text : Result ℕ RowsFault → List ℕ
answer_text (Ok k) = codes "new " ++ decimal k
answer_text (Err e) = refusal_text (rows_refusal e)

-- the packets of a set: bit k for packet k + 1
abbrev pub bit_text : ℕ → ℕ → List ℕ
bit_text set k = cond ((set / 2 ^ k % 2) == 1) (codes " " ++ decimal (k + 1)) []

abbrev pub set_text : ℕ → List ℕ
set_text set = flat_map (bit_text set) (range_with_len 0 32)

-- a frame that was heard
abbrev pub line_text : Line → List ℕ
line_text x = codes "  heard  " ++ (codes_text x.frame.now ++ (codes "  " ++ (answer_text x.answer ++ (codes "  seen" ++ (set_text x.seen ++ line_end)))))

-- a packet, if it could be read
abbrev pub symbols_text : Option (Vec ℕ Global) → List ℕ
symbols_text (Some p) = codes_text (vec_items p)
symbols_text None = codes " is not determined"

abbrev pub packet_text : ℕ × Option (Vec ℕ Global) → List ℕ
packet_text (k, p) = codes "  packet " ++ (decimal k ++ (symbols_text p ++ line_end))

-- the packets, numbered from 1
abbrev pub packets_text : List (Option (Vec ℕ Global)) → List ℕ
packets_text ps = flat_map packet_text (enumerate_from 1 ps)

-- the frames that were heard and the packets, in order
abbrev pub decoding_text : Decoding → List ℕ
decoding_text d = flat_map line_text (vec_items d.lines) ++ packets_text (vec_items d.packets)

-- the name of the field, and then the decoding
abbrev pub listing_text : List ℕ → Decoding → List ℕ
listing_text name d = name ++ (line_end ++ decoding_text d)

-- a decoding that was refused is told by its refusal
abbrev pub refused_text : List ℕ → RowsFault → List ℕ
refused_text name e = name ++ (codes "  " ++ (refusal_text (rows_refusal e) ++ line_end))

abbrev pub told_text : List ℕ → Result Decoding RowsFault → List ℕ
told_text name (Ok d) = listing_text name d
told_text name (Err e) = refused_text name e

-- what is told of a recording of frames for four packets of three symbols
pub record Told (o : Ops) (name bytes text : List ℕ) : Type 0 where
  pub result : Result Decoding RowsFault
  pub decodes : Decodes o 4 3 (recorded bytes 7) result
  pub is : text ≡ told_text name result
