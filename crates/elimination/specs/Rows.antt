-- Rows of codes, and what is left of one when a multiple of another is taken away. Assumes nothing.
use Rattle.std.specs.Prelude.{◌≡◌, ℕ, ◌<◌, Bool, cond, ◌&&◌, List, map, length, Ok, Err, Result, ◌==◌, nat_lt, slice_index}
use Rattle.std.specs.List.{range_with_len, list_all}
use Rattle.algebra.specs.Frames.{Codes}
use Rattle.field.specs.Fields.{Ops}
use Rattle.field.specs.declared.fault.FieldFault.{FieldFault}
use Rattle.field.specs.declared.fault.FieldFault.TheVariants.{CodeTooLarge}
use Rattle.elimination.specs.declared.fault.RowsFault.{RowsFault}
use Rattle.elimination.specs.declared.fault.RowsFault.TheVariants.{WrongLength, Field}

-- every number of a row is a code, below q, as a test
abbrev pub are_codes : ℕ → List ℕ → Bool
are_codes q row = list_all (λ c. nat_lt c q) row

-- a row is refused exactly where one of its numbers is no code
abbrev pub codes_answer : ℕ → List ℕ → Result (Unit {0}) FieldFault
codes_answer q row = cond (are_codes q row) (Ok tt) (Err CodeTooLarge)

-- rows of two lengths are refused first, then a number that is no code
abbrev pub pair_answer : ℕ → List ℕ → List ℕ → Result (Unit {0}) RowsFault
pair_answer q a b = cond (length b == length a) (cond (are_codes q a && are_codes q b) (Ok tt) (Err (Field CodeTooLarge))) (Err WrongLength)

-- the code of t at a place less f times the code of s there
abbrev pub less_at : Ops → List ℕ → ℕ → List ℕ → ℕ → ℕ
less_at o t f s i = o.difference (slice_index t i) (o.product f (slice_index s i))

-- the row t less f times the row s
unfoldable pub less_multiple : Ops → List ℕ → ℕ → List ℕ → List ℕ
less_multiple o t f s = map (less_at o t f s) (range_with_len 0 (length t))

-- rows and a factor that can be subtracted: one length, and codes throughout
pub record Subtractable (q : ℕ) (t : List ℕ) (f : ℕ) (s : List ℕ) : Type 0 where
  pub long : length s ≡ length t
  pub target_codes : Codes q t
  pub source_codes : Codes q s
  pub factor_code : f < q

-- rows of two lengths are refused first, then a number that is no code, of either row or the factor
abbrev pub subtract_answer : ℕ → List ℕ → ℕ → List ℕ → Result (Unit {0}) RowsFault
subtract_answer q t f s =
    cond (length s == length t) (cond (are_codes q t && (are_codes q s && nat_lt f q)) (Ok tt) (Err (Field CodeTooLarge))) (Err WrongLength)

-- a refusal leaves the row as it was
abbrev pub subtract_after : Ops → List ℕ → ℕ → List ℕ → Result (Unit {0}) RowsFault → List ℕ
subtract_after o t f s (Ok _) = less_multiple o t f s
subtract_after o t f s (Err _) = t
