-- What a field's calls answer: its meaning on codes, a refusal for anything else. Assumes nothing.
use Rattle.std.specs.Prelude.{ℕ, cond, Ok, Err, Result, ◌==◌, nat_lt}
use Rattle.field.specs.declared.fault.FieldFault.{FieldFault}
use Rattle.field.specs.declared.fault.FieldFault.TheVariants.{CodeTooLarge, InverseOfZero}
use Rattle.field.specs.Fields.{Ops}

-- a number is refused exactly where it is not below q
abbrev pub code_answer : ℕ → ℕ → Result ℕ FieldFault
code_answer q a = cond (nat_lt a q) (Ok a) (Err CodeTooLarge)

-- two numbers are refused exactly where one of them is not below q
abbrev pub two_answer : ℕ → ℕ → ℕ → Result (Unit {0}) FieldFault
two_answer q a b = cond (nat_lt a q) (cond (nat_lt b q) (Ok tt) (Err CodeTooLarge)) (Err CodeTooLarge)

-- a number to be inverted is refused exactly where it is not below q, or is 0
abbrev pub one_answer : ℕ → ℕ → Result (Unit {0}) FieldFault
one_answer q a = cond (nat_lt a q) (cond (a == 0) (Err InverseOfZero) (Ok tt)) (Err CodeTooLarge)

-- an operation on two codes: refused exactly where one of them is not below q
abbrev pub answer_of_two : ℕ → (ℕ → ℕ → ℕ) → ℕ → ℕ → Result ℕ FieldFault
answer_of_two q op a b = cond (nat_lt a q) (cond (nat_lt b q) (Ok (op a b)) (Err CodeTooLarge)) (Err CodeTooLarge)

abbrev pub sum_answer : Ops → ℕ → ℕ → Result ℕ FieldFault
sum_answer o = answer_of_two o.size o.sum

abbrev pub difference_answer : Ops → ℕ → ℕ → Result ℕ FieldFault
difference_answer o = answer_of_two o.size o.difference

abbrev pub product_answer : Ops → ℕ → ℕ → Result ℕ FieldFault
product_answer o = answer_of_two o.size o.product

-- the inverse: refused exactly where the code is not below q, or is 0
abbrev pub inverse_answer : Ops → ℕ → Result ℕ FieldFault
inverse_answer o a = cond (nat_lt a o.size) (cond (a == 0) (Err InverseOfZero) (Ok (o.inverse a))) (Err CodeTooLarge)
