use Rattle.algebra.proofs.Forms.{joined_form}
use Rattle.algebra.proofs.joined_form.Goals as goal

pub returns : goal.returns
returns c = joined_form
