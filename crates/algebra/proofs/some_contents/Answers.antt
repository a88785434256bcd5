use Rattle.algebra.proofs.Forms.{some_contents}
use Rattle.algebra.proofs.some_contents.Goals as goal

pub returns : goal.returns
returns c = some_contents
