use Rattle.std.proofs.Common.{ℕ, List}
use Rattle.repair.specs.Coding.{Arrived, coefficients, packets}
use Rattle.repair.proofs.Repairs.{TakingTerms}
use Rattle.repair.proofs.coding.rebuild.Given as goal

abbrev pub invariant-loop-term : goal.invariant-loop-term
invariant-loop-term g l =
    let o = g.F.Field.ops l.field in
    (sent : List (List ℕ)) (n : ℕ) (here : Arrived o (coefficients l.received) sent n (packets l.received) l.coded)
    → TakingTerms o (g.met.F.Field.lawful l.field) l.received l.coded sent n here l.term-index l.lost l.rest
