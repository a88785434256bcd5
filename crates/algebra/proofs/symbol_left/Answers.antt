use Rattle.algebra.proofs.Forms.{symbol_left}
use Rattle.algebra.proofs.symbol_left.Goals as goal

pub returns : goal.returns
returns c = symbol_left
