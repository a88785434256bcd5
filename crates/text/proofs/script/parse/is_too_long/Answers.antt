use Rattle.std.proofs.Common.{ap, length, inl, arith}
use Rattle.text.proofs.Cutting.{few_lines}
use Rattle.text.proofs.script.parse.is_too_long.Goals as goal

pub count-requires-clause-fits : goal.count-requires-clause-fits
count-requires-clause-fits c = let few = few_lines c.of.result.rest.now in let e = ap length c.of.ensures in inl (omega arith)
