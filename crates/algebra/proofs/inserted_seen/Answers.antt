use Rattle.algebra.proofs.Forms.{inserted_seen}
use Rattle.algebra.proofs.inserted_seen.Goals as goal

pub returns : goal.returns
returns c = inserted_seen
