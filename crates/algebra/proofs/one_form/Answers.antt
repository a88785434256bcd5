use Rattle.algebra.proofs.Forms.{one_form}
use Rattle.algebra.proofs.one_form.Goals as goal

pub returns : goal.returns
returns c = one_form
