use Rattle.algebra.proofs.Forms.{accepted_frames}
use Rattle.algebra.proofs.accepted_frames.Goals as goal

pub returns : goal.returns
returns c = accepted_frames
