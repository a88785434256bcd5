-- Piles of two layers, by the counts that come over a send. Assumes nothing.
use Rattle.std.specs.Prelude.{◌≡◌, ℕ, ◌+◌, List}
use Rattle.text.specs.Scripts.{script_lines}
use Rattle.link.specs.declared.drawn.Drawn.{Drawn}
use Rattle.link.specs.declared.erasing.Erasing.{Erasing}
use Rattle.link.specs.declared.scripted.Scripted.{Scripted}
use Rattle.link.specs.Meanings.{Meaning}
use Rattle.link.specs.Counts.{line_counts, drawn_counts, erased_counts}
use Rattle.link.specs.Drawn.{drawn_meaning}
use Rattle.link.specs.Scripted.{scripted_meaning}

-- two layers over counts that come in slot t
abbrev pub twice_erased : List ℕ → List ℕ → ℕ → List ℕ → List ℕ
twice_erased outer inner t counts = erased_counts outer t (erased_counts inner t counts)

-- over any link: it goes as it goes, one slot on, and the counts are those that it then has, less what two layers erase
pub record Over {L : Type 0} (meaning : L → Meaning) (goes : L → List ℕ → L → Type 0) (p : Erasing (Erasing L)) (frame : List ℕ) (q : Erasing (Erasing L)) (counts : List ℕ) : Type 0 where
  pub went : goes p.lower.lower frame q.lower.lower
  pub one_more : (meaning q.lower.lower).carried ≡ (meaning p.lower.lower).carried + 1
  pub counts_are : counts ≡ twice_erased p.periods.of p.lower.periods.of (meaning q.lower.lower).carried (meaning q.lower.lower).counts

-- the counts that a drawn link draws next, less what two layers erase in that slot
abbrev pub OverDrawn : Erasing (Erasing Drawn) → List ℕ → Type 0
OverDrawn p counts =
    let d = p.lower.lower in
    counts ≡ twice_erased p.periods.of p.lower.periods.of ((drawn_meaning d).carried + 1) (drawn_counts 8 d.generator.loss d.generator.state)

-- the counts of a script's next line, less what two layers erase in that slot
abbrev pub OverScripted : Erasing (Erasing Scripted) → List ℕ → Type 0
OverScripted p counts =
    let s = p.lower.lower in
    counts ≡ twice_erased p.periods.of p.lower.periods.of ((scripted_meaning s).carried + 1) (line_counts (script_lines s.script) ((scripted_meaning s).carried + 1))
