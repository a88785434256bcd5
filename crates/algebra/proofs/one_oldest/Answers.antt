use Rattle.algebra.proofs.Oldest.{one_oldest}
use Rattle.algebra.proofs.one_oldest.Goals as goal

pub returns : goal.returns
returns c = one_oldest
