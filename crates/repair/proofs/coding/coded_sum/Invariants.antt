use Rattle.repair.specs.Coding.{Sendable, coefficients, packets}
use Rattle.repair.proofs.Repairs.{AddingTerms}
use Rattle.repair.proofs.coding.coded_sum.Given as goal

abbrev pub invariant-loop-term : goal.invariant-loop-term
invariant-loop-term g l =
    let o = g.F.Field.ops l.field in
    (ok : Sendable o.size (coefficients l.terms) (packets l.terms))
    → AddingTerms o (g.met.F.Field.lawful l.field) l.terms ok l.term-index l.sum
