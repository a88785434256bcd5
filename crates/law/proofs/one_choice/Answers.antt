use Rattle.law.proofs.Choosing.{one_choice}
use Rattle.law.proofs.one_choice.Goals as goal

pub returns : goal.returns
returns c = one_choice
