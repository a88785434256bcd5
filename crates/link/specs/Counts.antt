-- Which counts each link sets. Assumes nothing.
use Rattle.std.specs.Prelude.{ℕ, zero, suc, ◌+◌, ◌-◌, ◌*◌, ◌/◌, ◌%◌, ◌^◌, Bool, cond, ◌&&◌, List, map, ◌==◌, bit_xor, nat_lt, slice_index}
use Rattle.std.specs.List.{range_with_len}
use Rattle.text.specs.Tables.{number_at}
use Rattle.link.specs.Meanings.{no_copies}

-- the counts after t slots of a script: those of line t, and 0 for a relay beyond its fields
abbrev pub line_counts : List (List ℕ) → ℕ → List ℕ
line_counts lines t = cond (t == 0) no_copies (map (number_at lines (t - 1)) (range_with_len 0 8))

-- exclusive or with itself shifted to the left, as a number of 32 bits
abbrev pub left_shifted : ℕ → ℕ → ℕ
left_shifted k x = bit_xor x ((x * 2 ^ k) % 2 ^ 32)

-- exclusive or with itself shifted to the right
abbrev pub right_shifted : ℕ → ℕ → ℕ
right_shifted k x = bit_xor x (x / 2 ^ k)

-- the three one after another
abbrev pub shifted : ℕ → ℕ → ℕ → ℕ → ℕ
shifted left right last x = left_shifted last (right_shifted right (left_shifted left x))

-- one step of xorshift32: left by 13, right by 17, left by 5
unfoldable pub step : ℕ → ℕ
step x = shifted 13 17 5 x

-- the state after n steps
unfoldable pub steps : ℕ → ℕ → ℕ
steps zero x = x
steps (suc n) x = step (steps n x)

-- upper 16 bits below the loss figure mean no copy, else there is one
abbrev pub drawn_count : ℕ → ℕ → ℕ
drawn_count loss x = cond (nat_lt (x / 2 ^ 16) loss) 0 1

-- the counts of the first n relays, drawn from a state on: one step for each relay in turn
unfoldable pub drawn_counts : ℕ → ℕ → ℕ → List ℕ
drawn_counts n loss x = map (λ i. drawn_count loss (steps (i + 1) x)) (range_with_len 0 n)

-- a period of at least 1 erases the slots that it divides
abbrev pub erases : ℕ → ℕ → Bool
erases period t = nat_lt 0 period && t % period == 0

-- counts after t slots, with those that the periods erase at 0
abbrev pub erased_count : List ℕ → ℕ → List ℕ → ℕ → ℕ
erased_count periods t counts i = cond (erases (slice_index periods i) t) 0 (slice_index counts i)

-- the counts of all eight relays
unfoldable pub erased_counts : List ℕ → ℕ → List ℕ → List ℕ
erased_counts periods t counts = map (erased_count periods t counts) (range_with_len 0 8)
