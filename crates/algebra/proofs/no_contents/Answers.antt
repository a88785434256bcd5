use Rattle.algebra.proofs.Forms.{no_contents}
use Rattle.algebra.proofs.no_contents.Goals as goal

pub returns : goal.returns
returns c = no_contents
