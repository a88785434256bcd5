use Rattle.algebra.proofs.Forms.{nothing_left}
use Rattle.algebra.proofs.nothing_left.Goals as goal

pub returns : goal.returns
returns c = nothing_left
