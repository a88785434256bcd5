-- What a field's calls answer on codes. Assumes nothing.
use Rattle.std.proofs.Common.{◌≡◌, ℕ, ◌<◌, Ok, arith}
use Rattle.std.proofs.lemmas.Bool.Decides.{nat_tests}
use Rattle.field.specs.Fields.{Ops}
use Rattle.field.specs.Answers.{answer_of_two, inverse_answer}

-- two codes are not refused
pub accepts_two : (q : ℕ) (op : ℕ → ℕ → ℕ) (a b : ℕ) → a < q → b < q → answer_of_two q op a b ≡ Ok (op a b)
accepts_two q op a b ha hb = grind (arith, nat_tests)

pub answered_two : (q : ℕ) (op : ℕ → ℕ → ℕ) (a b r : ℕ) → a < q → b < q → Ok r ≡ answer_of_two q op a b → r ≡ op a b
answered_two q op a b r ha hb e = cc (accepts_two q op a b ha hb)

-- every code but 0 has its inverse
pub accepts_inverse : (o : Ops) (a : ℕ) → 0 < a → a < o.size → inverse_answer o a ≡ Ok (o.inverse a)
accepts_inverse o a p h = grind (arith, nat_tests)
