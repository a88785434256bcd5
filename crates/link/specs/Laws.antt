-- Slots with counts keep the laws of a link, if the counts do. Assumes nothing.
use Rattle.std.specs.Prelude.{◌≡◌, ℕ, ◌-◌, ◌≤◌, List, map, length, slice_index}
use Rattle.std.proofs.Common.{arith}
use Rattle.std.specs.List.{range_with_len}
use Rattle.std.proofs.lemmas.List.FromFn.{length-map-range_with_len, get_or-map-range_with_len}
use Rattle.std.proofs.lemmas.Grind.{common_steps}
use Rattle.text.specs.Scripts.{script_lines}
use Rattle.text.specs.Tables.{number_at}
use Rattle.text.specs.declared.script.Script.{Script}
use Rattle.link.specs.declared.slots.Slots.{Slots}
use Rattle.link.specs.Meanings.{Lawful, no_copies}
use Rattle.link.specs.Carried.{with_counts}
use Rattle.link.specs.Counts.{line_counts}

pub slots_lawful : (s : Slots) (counts : List ℕ) → length counts ≡ 8 → ((i : ℕ) → slice_index counts i ≤ 9) → (s.carried ≡ 0 → counts ≡ no_copies) → Lawful (with_counts s counts)
slots_lawful s counts eight few none = record {
  slots = s.within;
  short = s.short;
  eight = eight;
  few = few;
  no_frame = s.fresh;
  no_counts = none;
}

-- counts that are at most 1 are at most 9
pub single_few : (counts : List ℕ) → ((i : ℕ) → slice_index counts i ≤ 1) → (i : ℕ) → slice_index counts i ≤ 9
single_few counts single i = omega (arith, single i)

-- values of a function that is at most b everywhere
pub each_counted : (f : ℕ → ℕ) (b n : ℕ) → ((k : ℕ) → f k ≤ b) → (i : ℕ) → slice_index (map f (range_with_len 0 n)) i ≤ b
each_counted f b n h i = grind (arith, common_steps, h i, length-map-range_with_len f 0 n, get_or-map-range_with_len f 0 n i i 0)

pub none_few : (i : ℕ) → slice_index no_copies i ≤ 9
none_few i = grind (arith, common_steps)

module _ (script : Script) (t : ℕ) where
  abbrev digit : ℕ → ℕ
  digit = number_at (script_lines script) (t - 1)

  pub script_eight : length (line_counts (script_lines script) t) ≡ 8
  script_eight = grind (arith, common_steps, length-map-range_with_len digit 0 8)

  pub script_few : (i : ℕ) → slice_index (line_counts (script_lines script) t) i ≤ 9
  script_few i = grind (arith, common_steps, each_counted digit 9 8 (script.digits (t - 1)) i)

  pub script_none : t ≡ 0 → line_counts (script_lines script) t ≡ no_copies
  script_none z = grind (arith, common_steps)
