use Rattle.algebra.proofs.Forms.{determined_rows}
use Rattle.algebra.proofs.determined_rows.Goals as goal

pub returns : goal.returns
returns c = determined_rows
