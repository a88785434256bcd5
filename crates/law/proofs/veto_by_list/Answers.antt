use Rattle.law.proofs.Listing.{veto_by_list}
use Rattle.law.proofs.veto_by_list.Goals as goal

pub returns : goal.returns
returns c = veto_by_list
