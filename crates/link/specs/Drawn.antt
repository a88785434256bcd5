-- The drawn link. Assumes nothing.
use Rattle.std.specs.Prelude.{◌≡◌, ℕ, cond, List, ◌==◌}
use Rattle.link.specs.declared.drawn.Drawn.{Drawn}
use Rattle.link.specs.Meanings.{Meaning, unused}
use Rattle.link.specs.Carried.{with_counts}
use Rattle.link.specs.Counts.{steps, drawn_counts}

-- its slots, its frame and its counts are those that it keeps
abbrev pub drawn_meaning : Drawn → Meaning
drawn_meaning d = with_counts d.slots d.counts

-- over a send the counts of the eight relays are drawn, one step for each in turn; the loss figure stays
pub record DrawnGoes (d : Drawn) (frame : List ℕ) (e : Drawn) : Type 0 where
  pub drawn : e.counts ≡ drawn_counts 8 d.generator.loss d.generator.state
  pub state_is : e.generator.state ≡ steps 8 d.generator.state
  pub loss_is : e.generator.loss ≡ d.generator.loss

-- a drawn link before its first slot; a seed of 0 is taken as 1
pub record DrawnNew (seed loss : ℕ) (d : Drawn) : Type 0 where
  pub seed_is : d.generator.state ≡ cond (seed == 0) 1 seed
  pub loss_is : d.generator.loss ≡ loss
  pub meaning_is : drawn_meaning d ≡ unused 65535
