use Rattle.algebra.proofs.Forms.{seen_rows}
use Rattle.algebra.proofs.seen_rows.Goals as goal

pub returns : goal.returns
returns c = seen_rows
