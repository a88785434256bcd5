use Rattle.repair.proofs.Repairs.{add_done}
use Rattle.repair.proofs.coding.add_multiple.Goals as goal

pub returns-clause-added : goal.returns-clause-added
returns-clause-added g c =
    add_done (g.F.Field.ops c.args.field.now) (g.met.F.Field.lawful c.args.field.now) c.args.target.now c.args.factor c.args.row.now
    c.in_ok-negative.negative _ _ c.in_ok-negative.ensures c.subtract_multiple.ensures.answer c.subtract_multiple.ensures.after
