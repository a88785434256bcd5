-- A recording of frames as bytes. Assumes nothing.
use Rattle.std.specs.Prelude.{ℕ, ◌+◌, ◌*◌, ◌/◌, cond, List, [], map, length, ◌==◌, slice_index}
use Rattle.std.specs.Simd.{first_chunks}

-- a code of two bytes, the higher one first
abbrev pub code_of : List ℕ → ℕ
code_of pair = slice_index pair 0 * 256 + slice_index pair 1

-- the codes that the bytes write
abbrev pub codes_of : List ℕ → List ℕ
codes_of bytes = map code_of (first_chunks 2 (length bytes / 2) bytes)

-- whole frames of w codes, one after another
abbrev pub frames_of : List ℕ → ℕ → List (List ℕ)
frames_of codes w = first_chunks w (length codes / w) codes

-- the frames of a recording; frames without codes are none
abbrev pub recorded : List ℕ → ℕ → List (List ℕ)
recorded bytes w = cond (w == 0) [] (frames_of (codes_of bytes) w)
