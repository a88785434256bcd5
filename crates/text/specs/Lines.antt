-- The numbers of a line. Assumes nothing.
use Rattle.std.specs.Prelude.{◌≡◌, ℕ, ◌+◌, ◌-◌, ◌*◌, Bool, cond, ◌&&◌, List, [], ◌∷◌, length, Some, None, Ok, Err, Option, Result, ◌==◌, nat_le, nat_lt, slice_index, fold, vec_items, Vec}
use Rattle.std.specs.Char.{is_ascii_digit}
use Rattle.std.specs.List.{list_all}
use Rattle.std.specs.declared.alloc.Global.{Global}
use Rattle.text.specs.declared.fault.LineFault.{LineFault}
use Rattle.text.specs.declared.fault.LineFault.TheVariants.{NoDigit, WrongCount, NoEnd}
use Rattle.text.specs.declared.fault.Unread.{Unread}
use Rattle.text.specs.declared.fault.Unread.TheVariants.{Faulty, NoMemory}
use Rattle.text.specs.Cuts.{fields_of}

-- every byte is a digit
abbrev pub are_digits : List ℕ → Bool
are_digits bs = list_all is_ascii_digit bs

-- the number that digits write, after digits that write a
abbrev pub number_after : ℕ → List ℕ → ℕ
number_after a bs = fold (λ n b. n * 10 + (b - 48)) a bs

-- the first byte is a digit
abbrev pub begins : List ℕ → Bool
begins f = nat_lt 0 (length f) && is_ascii_digit (slice_index f 0)

-- the field of number k: one to m digits and nothing else
abbrev pub field_answer : ℕ → ℕ → List ℕ → Result ℕ LineFault
field_answer m k f = cond (begins f) (cond (nat_le (length f) m && are_digits f) (Ok (number_after 0 f)) (Err (NoEnd k))) (Err (NoDigit k))

-- a number more in front
abbrev pub in_front : ℕ → Result (List ℕ) LineFault → Result (List ℕ) LineFault
in_front n (Ok ns) = Ok (n ∷ ns)
in_front n (Err e) = Err e

-- a number in front of others, unless it has a fault itself
abbrev pub first_then : Result ℕ LineFault → Result (List ℕ) LineFault → Result (List ℕ) LineFault
first_then (Ok n) rest = in_front n rest
first_then (Err e) rest = Err e

-- the numbers of fields, counted from k on, or the first fault among them
unfoldable pub numbers_from : ℕ → ℕ → List (List ℕ) → Result (List ℕ) LineFault
numbers_from m k [] = Ok []
numbers_from m k (f ∷ fs) = first_then (field_answer m k f) (numbers_from m (k + 1) fs)

-- how many fields a line may have: as many as the lines before it, or else at most 8
abbrev pub fits : Option ℕ → ℕ → Bool
fits None n = nat_le n 8
fits (Some w) n = n == w

-- the count of fields is looked at last, at the line's end
abbrev pub counted : Option ℕ → Result (List ℕ) LineFault → Result (List ℕ) LineFault
counted w (Ok ns) = cond (fits w (length ns)) (Ok ns) (Err (WrongCount (length ns)))
counted w (Err e) = Err e

-- a line of fields of one to m digits
abbrev pub line_answer : ℕ → Option ℕ → List ℕ → Result (List ℕ) LineFault
line_answer m w line = counted w (numbers_from m 1 (fields_of line))

-- a line is read as its numbers, or refused by its fault; besides, memory may be wanting
abbrev pub ReadAs : Result (List ℕ) LineFault → Result (Vec ℕ Global) (Unread LineFault) → Type 0
ReadAs answer (Ok v) = answer ≡ Ok (vec_items v)
ReadAs answer (Err (Faulty e)) = answer ≡ Err e
ReadAs answer (Err (NoMemory _)) = Unit {0}
