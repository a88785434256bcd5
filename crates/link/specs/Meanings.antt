-- What a link means, and the laws that make it one. Assumes nothing.
use Rattle.std.specs.Prelude.{◌≡◌, ℕ, ◌+◌, ◌≤◌, List, [], length, replicate, slice_index}

-- A link by its meaning: slots carried, slots left, the current frame, and for each of eight relays a count of copies.
pub record Meaning : Type 0 where
  pub carried : ℕ
  pub left : ℕ
  pub frame : List ℕ
  pub counts : List ℕ

-- eight counts of 0
abbrev pub no_copies : List ℕ
no_copies = replicate 8 0

-- before the first send: so many slots are left, the frame is empty and every count is 0
abbrev pub unused : ℕ → Meaning
unused left = record { carried = 0; left = left; frame = []; counts = no_copies }

-- The laws.
pub record Lawful (m : Meaning) : Type 0 where
  pub slots : m.carried + m.left ≤ 65535
  pub short : length m.frame ≤ 64
  pub eight : length m.counts ≡ 8
  -- each count is 0 to 9
  pub few : (i : ℕ) → slice_index m.counts i ≤ 9
  -- before the first send the frame is empty and every count is 0
  pub no_frame : m.carried ≡ 0 → m.frame ≡ []
  pub no_counts : m.carried ≡ 0 → m.counts ≡ no_copies
