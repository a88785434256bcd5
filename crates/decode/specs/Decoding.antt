-- What a relay answers to frames, one after another, and the packets that it then reads. Assumes nothing.
use Rattle.std.specs.Prelude.{◌≡◌, ℕ, ◌+◌, ◌<◌, List, [], ◌∷◌, map, length, replicate, Some, None, Ok, Err, vec_items, Option, Result, Vec, slice_index_or}
use Rattle.std.specs.declared.alloc.Global.{Global}
use Rattle.faults.specs.Refusals.{RefusedBy}
use Rattle.field.specs.Fields.{Ops}
use Rattle.elimination.specs.declared.fault.RowsFault.{RowsFault}
use Rattle.elimination.specs.declared.fault.RowsFault.TheVariants.{NoMemory}
use Rattle.elimination.specs.Tables.{size_answer, empty_table}
use Rattle.relay.specs.Calls.{Hears, seen_answer, Fetches}
use Rattle.relay.specs.Promise.{Hearing, Promise}
use Rattle.relay.specs.States.{State}
use Rattle.decode.specs.declared.decoding.Decoding.{Decoding}
use Rattle.decode.specs.declared.decoding.Line.{Line}

-- the frames of the lines
abbrev pub frames_of_lines : List Line → List (List ℕ)
frames_of_lines xs = map (λ (x : Line). x.frame.now) xs

-- each line's frame is heard: what was answered to it, and the set of packets seen after it
abbrev pub Listed : Option State → List Line → Option State → Type 0
Listed s [] t = t ≡ s
Listed s (x ∷ xs) t = (m : Option State) × (Hears s x.frame.now x.answer m × ((Ok x.seen ≡ seen_answer m) × Listed m xs t))

-- these hearings, the last one first, after earlier ones
abbrev pub hearings : List Hearing → List Line → List Hearing
hearings hs [] = hs
hearings hs (x ∷ xs) = hearings (record { frame = x.frame.now; answer = x.answer } ∷ hs) xs

-- a packet that was read, or none where the relay refuses it
abbrev pub ReadAs : Option State → ℕ → ℕ → Option (Vec ℕ Global) → Type 0
ReadAs s l k (Some p) = Fetches s k (replicate l 0) (Ok tt) (vec_items p)
ReadAs s l k None = (e : RowsFault) × Fetches s k (replicate l 0) (Err e) (replicate l 0)

-- the first n packets
pub record ReadOff (s : Option State) (l : ℕ) (packets : List (Option (Vec ℕ Global))) (n : ℕ) : Type 0 where
  pub long : length packets ≡ n
  pub each : (k : ℕ) → k < n → ReadAs s l (k + 1) (slice_index_or packets k None)

-- a decoding: from a relay newly started, every frame is heard on a line, the relay keeps its promise, and every packet is read that can be
pub record Decoded (o : Ops) (n l : ℕ) (frames : List (List ℕ)) (d : Decoding) : Type 0 where
  pub last : Option State
  pub heard : frames_of_lines (vec_items d.lines) ≡ frames
  pub listed : Listed (Some (record { ops = o; table = empty_table o.size n l })) (vec_items d.lines) last
  pub promise : Promise o n l (hearings [] (vec_items d.lines)) last
  pub read : ReadOff last l (vec_items d.packets) n

abbrev pub Decodes : Ops → ℕ → ℕ → List (List ℕ) → Result Decoding RowsFault → Type 0
Decodes o n l frames (Ok d) = Decoded o n l frames d
Decodes o n l frames (Err e) = RefusedBy (size_answer n l) (λ e. e ≡ NoMemory) e
