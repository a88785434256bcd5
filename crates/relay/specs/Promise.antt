-- What a relay keeps over any list of hearings since its start. Assumes nothing.
use Rattle.std.specs.Prelude.{◌≡◌, ℕ, suc, ◌+◌, ◌-◌, ◌/◌, ◌%◌, ◌^◌, ◌<◌, ◌≤◌, true, ◌↔◌, List, [], ◌∷◌, length, is_ok, Some, Ok, Err, Option, Result}
use Rattle.field.specs.Fields.{Ops}
use Rattle.algebra.specs.Frames.{code_at, Frame}
use Rattle.algebra.specs.Packets.{Seen, Contents, AgreesAll, Determined}
use Rattle.algebra.specs.Rows.{ReducedForm}
use Rattle.elimination.specs.declared.fault.RowsFault.{RowsFault}
use Rattle.relay.specs.Calls.{Hears, seen_answer, Fetches}
use Rattle.relay.specs.States.{State, holding}

-- one call of hear: the frame, and what was answered
pub record Hearing : Type 0 where
  pub frame : List ℕ
  pub answer : Result ℕ RowsFault

-- calls of hear, the last one first, lead from one state to another, each from what the one before it left
abbrev pub Reached : Option State → List Hearing → Option State → Type 0
Reached s [] t = t ≡ s
Reached s (h ∷ hs) t = (m : Option State) × (Reached s hs m × Hears m h.frame h.answer t)

-- the frames accepted, the last one first: those that were not refused
abbrev pub added : Result ℕ RowsFault → List ℕ → List (List ℕ) → List (List ℕ)
added (Ok _) f fs = f ∷ fs
added (Err _) f fs = fs

abbrev pub accepted : List Hearing → List (List ℕ)
accepted [] = []
accepted (h ∷ hs) = added h.answer h.frame (accepted hs)

-- bit m of a set is 1
abbrev pub Has : ℕ → ℕ → Type 0
Has set m = set / 2 ^ m % 2 ≡ 1

-- a frame of n coefficients and l symbols with which, and with all frames accepted before, some contents agree
abbrev pub Acceptable : Ops → ℕ → ℕ → List (List ℕ) → List ℕ → Type 0
Acceptable o n l fs f = Frame o.size (n + l) f × ((p : Contents o.size) × AgreesAll o n l p (f ∷ fs))

-- a relay started for n packets of l symbols is now in state t, after these hearings
pub record Promise (o : Ops) (n l : ℕ) (hs : List Hearing) (t : Option State) : Type 0 where
  -- its rows are the reduced form of exactly the frames accepted
  pub rows : List (List ℕ)
  pub holds : t ≡ Some (holding o n l rows)
  pub form : ReducedForm o n l (accepted hs) rows
  -- the seen set has exactly the packets seen, and nothing past the last packet
  pub seen : (set : ℕ) → Ok set ≡ seen_answer t → (m : ℕ) → m < n → Has set m ↔ Seen o (accepted hs) m
  pub no_other : (set : ℕ) → Ok set ≡ seen_answer t → set < 2 ^ n
  -- a hearing is accepted exactly where some contents agree with its frame and all accepted before
  pub accepts : (f : List ℕ) (r : Result ℕ RowsFault) (u : Option State) → Hears t f r u → (is_ok r ≡ true) ↔ Acceptable o n l (accepted hs) f
  -- it answers a packet exactly where that packet becomes seen by it
  pub shows : (f : List ℕ) (r : Result ℕ RowsFault) (u : Option State) → Hears t f r u → (m : ℕ) → m < n
      → (r ≡ Ok (suc m)) ↔ (Acceptable o n l (accepted hs) f × (Seen o (f ∷ accepted hs) m × (Seen o (accepted hs) m → ⊥)))
  -- some contents always agree with the frames accepted
  pub contents : (p : Contents o.size) × AgreesAll o n l p (accepted hs)
  -- a packet is fetched into a buffer of l codes exactly where it is determined
  pub fetches : (k : ℕ) (b : List ℕ) (r : Result (Unit {0}) RowsFault) (c : List ℕ) → Fetches t k b r c → 1 ≤ k → k ≤ n → length b ≡ l → (is_ok r ≡ true) ↔ Determined o n l (accepted hs) (k - 1)
  -- and what is fetched is that packet, in all contents that agree with the frames accepted
  pub gives : (k : ℕ) (b : List ℕ) (c : List ℕ) → Fetches t k b (Ok tt) c → (p : Contents o.size) → AgreesAll o n l p (accepted hs) → (j : ℕ) → j < l → code_at c j ≡ p.symbol (k - 1) j
