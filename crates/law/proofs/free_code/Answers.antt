use Rattle.law.proofs.Vetoes.{free_code}
use Rattle.law.proofs.free_code.Goals as goal

pub returns : goal.returns
returns c = free_code
