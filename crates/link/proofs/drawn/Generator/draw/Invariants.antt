use Rattle.std.proofs.Common.{◌≡◌, take}
use Rattle.link.specs.Counts.{steps, drawn_counts}
use Rattle.link.proofs.drawn.Generator.draw.Given as goal

abbrev pub invariant-loop-count : goal.invariant-loop-count
invariant-loop-count l =
    let g = l.initial.self in
    record {
      state : l.self.state ≡ steps l.count-index g.state;
      loss : l.self.loss ≡ g.loss;
      drawn : take l.count-index l.counts ≡ drawn_counts l.count-index g.loss g.state;
    }
