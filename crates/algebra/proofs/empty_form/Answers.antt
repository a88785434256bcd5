use Rattle.algebra.proofs.Forms.{empty_form}
use Rattle.algebra.proofs.empty_form.Goals as goal

pub returns : goal.returns
returns c = empty_form
