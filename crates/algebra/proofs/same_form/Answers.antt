use Rattle.algebra.proofs.Forms.{same_form}
use Rattle.algebra.proofs.same_form.Goals as goal

pub returns : goal.returns
returns c = same_form
