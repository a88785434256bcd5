-- What the tests of a table's calls let pass. Assumes nothing.
use Rattle.std.proofs.Common.{◌≡◌, ℕ, ◌+◌, ◌≤◌, cond, ◌&&◌, eqb, leb, List, length, Ok, Err, ◌∙◌}
use Rattle.std.proofs.lemmas.Bool.{eqb-true, eq-eqb, leb-true, le-leb, and_parts, and_from, cond-true}
use Rattle.faults.proofs.Passed.{passed}
use Rattle.field.specs.Fields.{Ops}
use Rattle.field.specs.declared.fault.FieldFault.TheVariants.{CodeTooLarge}
use Rattle.algebra.specs.Frames.{Frame}
use Rattle.elimination.specs.declared.fault.RowsFault.TheVariants.{NotStarted, WrongSize, WrongLength, NoPacket, Field}
use Rattle.elimination.specs.Rows.{are_codes}
use Rattle.elimination.specs.Tables.{Held, size_answer, frame_answer, packet_answer}
use Rattle.elimination.proofs.Below.{codes_from_test, test_from_codes}

-- sizes in their ranges
pub record InRange (n l : ℕ) : Type 0 where
  pub some_packets : 1 ≤ n
  pub few_packets : n ≤ 32
  pub some_symbols : 1 ≤ l
  pub few_symbols : l ≤ 32

pub sizes_passed : (n l : ℕ) → Ok (tt {0}) ≡ size_answer n l → InRange n l
sizes_passed n l ok =
    let all = and_parts (leb 1 n) (leb n 32 && (leb 1 l && leb l 32)) (passed (leb 1 n && (leb n 32 && (leb 1 l && leb l 32))) tt (Ok tt) WrongSize ok).0 in
    let rest = and_parts (leb n 32) (leb 1 l && leb l 32) all.1 in
    let last = and_parts (leb 1 l) (leb l 32) rest.1 in
    record {
      some_packets = leb-true 1 n all.0;
      few_packets = leb-true n 32 rest.0;
      some_symbols = leb-true 1 l last.0;
      few_symbols = leb-true l 32 last.1;
    }

-- a frame for a table
pub record Fits (o : Ops) (t : Held) (f : List ℕ) : Type 0 where
  pub field : o.size ≡ t.size
  pub frame : Frame t.size (t.packets + t.symbols) f

pub frame_passed : (o : Ops) (t : Held) (f : List ℕ) → Ok (tt {0}) ≡ frame_answer o t f → Fits o t f
frame_passed o t f ok =
    let codes = cond (are_codes t.size f) (Ok tt) (Err (Field CodeTooLarge)) in
    let lengths = cond (eqb (length f) (t.packets + t.symbols)) codes (Err WrongLength) in
    let sizes = passed (eqb o.size t.size) tt lengths NotStarted ok in
    let long = passed (eqb (length f) (t.packets + t.symbols)) tt codes WrongLength sizes.1 in
    record {
      field = eqb-true o.size t.size sizes.0;
      frame = record {
        long = eqb-true (length f) (t.packets + t.symbols) long.0;
        codes = codes_from_test t.size f (passed (are_codes t.size f) tt (Ok tt) (Field CodeTooLarge) long.1).0;
      };
    }

pub frame_passes : (o : Ops) (t : Held) (f : List ℕ) → Fits o t f → frame_answer o t f ≡ Ok tt
frame_passes o t f fits =
    let codes = cond (are_codes t.size f) (Ok tt) (Err (Field CodeTooLarge)) in
    let lengths = cond (eqb (length f) (t.packets + t.symbols)) codes (Err WrongLength) in
    cond-true (eqb o.size t.size) lengths (Err NotStarted) (eq-eqb o.size t.size fits.field)
    ∙ cond-true (eqb (length f) (t.packets + t.symbols)) codes (Err WrongLength) (eq-eqb (length f) (t.packets + t.symbols) fits.frame.long)
    ∙ cond-true (are_codes t.size f) (Ok tt) (Err (Field CodeTooLarge)) (test_from_codes t.size f fits.frame.codes)

-- a packet and a buffer for it
pub record Asked (t : Held) (k len : ℕ) : Type 0 where
  pub long : len ≡ t.symbols
  pub first : 1 ≤ k
  pub last : k ≤ t.packets

pub packet_passed : (t : Held) (k len : ℕ) → Ok (tt {0}) ≡ packet_answer t k len → Asked t k len
packet_passed t k len ok =
    let numbers = cond (leb 1 k && leb k t.packets) (Ok tt) (Err NoPacket) in
    let long = passed (eqb len t.symbols) tt numbers WrongLength ok in
    let both = and_parts (leb 1 k) (leb k t.packets) (passed (leb 1 k && leb k t.packets) tt (Ok tt) NoPacket long.1).0 in
    record { long = eqb-true len t.symbols long.0; first = leb-true 1 k both.0; last = leb-true k t.packets both.1 }

pub packet_passes : (t : Held) (k len : ℕ) → Asked t k len → packet_answer t k len ≡ Ok tt
packet_passes t k len asked =
    let numbers = cond (leb 1 k && leb k t.packets) (Ok tt) (Err NoPacket) in
    cond-true (eqb len t.symbols) numbers (Err WrongLength) (eq-eqb len t.symbols asked.long)
    ∙ cond-true (leb 1 k && leb k t.packets) (Ok tt) (Err NoPacket) (and_from (leb 1 k) (leb k t.packets) (le-leb 1 k asked.first) (le-leb k t.packets asked.last))
