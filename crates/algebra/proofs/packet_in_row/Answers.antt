use Rattle.algebra.proofs.Forms.{packet_in_row}
use Rattle.algebra.proofs.packet_in_row.Goals as goal

pub returns : goal.returns
returns c = packet_in_row
