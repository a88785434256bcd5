use Rattle.law.proofs.Oldests.{oldest_by_rows}
use Rattle.law.proofs.oldest_by_rows.Goals as goal

pub returns : goal.returns
returns c = oldest_by_rows
