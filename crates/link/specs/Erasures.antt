-- What a layer erases and what it keeps. Assumes nothing.
use Rattle.std.specs.Prelude.{◌≡◌, ℕ, ◌-◌, true, false, List, Ok, Err, slice_index, refl}
use Rattle.std.proofs.Common.{sym, arith}
use Rattle.std.proofs.lemmas.List.FromFn.{length-map-range_with_len, get_or-map-range_with_len, fill_by_all}
use Rattle.std.proofs.lemmas.Grind.{common_steps}
use Rattle.link.specs.Meanings.{Meaning, Lawful, no_copies}
use Rattle.link.specs.Calls.{is_relay, copies_answer, read_answer}
use Rattle.link.specs.Counts.{erased_count, erased_counts}
use Rattle.link.specs.Erased.{erased, erased_for, nothing_to_read}
use Rattle.link.specs.Laws.{each_counted}

module _ (periods : List ℕ) (t : ℕ) (counts : List ℕ) where
  erased_there : (relay : ℕ) → is_relay relay ≡ true → slice_index (erased_counts periods t counts) (relay - 1) ≡ erased_count periods t counts (relay - 1)
  unfolding erased_counts
  erased_there relay e = grind (arith, common_steps, get_or-map-range_with_len (erased_count periods t counts) 0 8 (relay - 1) (relay - 1) 0)

  module _ (relay : ℕ) where
    pub copies_erased : erased_for periods t relay ≡ true → copies_answer (erased_counts periods t counts) relay ≡ Ok 0
    copies_erased e = grind (arith, common_steps, erased_there relay)

    pub copies_kept : erased_for periods t relay ≡ false → copies_answer (erased_counts periods t counts) relay ≡ copies_answer counts relay
    copies_kept e = grind (arith, common_steps, erased_there relay)

    pub read_erased : (frame : List ℕ) (n : ℕ) → erased_for periods t relay ≡ true
        → read_answer frame (copies_answer (erased_counts periods t counts) relay) n ≡ Err (nothing_to_read frame n)
    read_erased frame n e = rw (copies_erased e) (grind (arith, common_steps))

-- a layer over a lawful link is lawful
pub erased_lawful : (periods : List ℕ) (m : Meaning) → Lawful m → Lawful (erased periods m)
unfolding erased_counts
erased_lawful periods m laws = record {
  slots = laws.slots;
  short = laws.short;
  eight = length-map-range_with_len (erased_count periods m.carried m.counts) 0 8;
  few = each_counted (erased_count periods m.carried m.counts) 9 8 (λ k. grind (arith, common_steps, laws.few k));
  no_frame = laws.no_frame;
  no_counts = λ z. sym (fill_by_all (erased_count periods m.carried m.counts) no_copies 8 0 refl (λ k h. let none = laws.no_counts z in grind (arith, common_steps)));
}
