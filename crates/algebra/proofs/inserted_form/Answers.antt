use Rattle.algebra.proofs.Forms.{inserted_form}
use Rattle.algebra.proofs.inserted_form.Goals as goal

pub returns : goal.returns
returns c = inserted_form
