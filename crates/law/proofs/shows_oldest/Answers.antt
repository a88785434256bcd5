use Rattle.law.proofs.Showing.{shows_oldest}
use Rattle.law.proofs.shows_oldest.Goals as goal

pub returns : goal.returns
returns c = shows_oldest
