-- What a table does, told of the relay that holds it. Assumes nothing.
use Rattle.std.proofs.Common.{◌≡◌, ℕ, ◌+◌, ◌-◌, ◌<◌, ◌≤◌, eqb, List, [], length, get_or, Some, None, Ok, Err, Result, sym, ◌∙◌, subst, subst₂, add-one, arith, length-drop, get_or-drop}
use Rattle.std.proofs.lemmas.Bool.{eq-eqb, cond-true}
use Rattle.faults.proofs.Passed.{later}
use Rattle.field.specs.Fields.{Ops, Lawful}
use Rattle.algebra.specs.Packets.{Bare, Determined}
use Rattle.algebra.proofs.Forms.{determined_rows, packet_in_row}
use Rattle.elimination.specs.declared.fault.RowsFault.{RowsFault}
use Rattle.elimination.specs.declared.fault.RowsFault.TheVariants.{NotDetermined}
use Rattle.elimination.specs.Sound.{Sound}
use Rattle.elimination.specs.Tables.{Held, frame_answer, Shows, packet_answer, symbols_of, Fetched}
use Rattle.elimination.proofs.Accepting.{frame_passed, packet_passed}
use Rattle.elimination.proofs.Tabling.{own}
use Rattle.relay.specs.Calls.{Hears, FetchedBy, Holds}
use Rattle.relay.specs.States.{state_of}

-- a table of the field's size is a started relay's
pub started_at : (o : Ops) (t : Held) → o.size ≡ t.size → state_of o t ≡ Some (record { ops = o; table = t })
started_at o t e = cond-true (eqb o.size t.size) (Some (record { ops = o; table = t })) None (eq-eqb o.size t.size e)

-- a frame that is put in shows its lead, counted from 1
pub shown : (o : Ops) (t u : Held) (f : List ℕ) (a : ℕ) → frame_answer o t f ≡ Ok tt → Shows o t f a u → Hears (state_of o t) f (Ok (a + 1)) (state_of o u)
shown o t u f a ok put =
    let fits = frame_passed o t f (sym ok) in
    subst₂ (λ s r. Hears s f (Ok r) (state_of o u)) (sym (started_at o t fits.field)) (sym (add-one a))
    (ok, (u, (put, started_at o u (fits.field ∙ sym put.size))))

module _ (o : Ops) (laws : Lawful o) (t : Held) (sound : Sound o.size t.packets t.symbols t.rows) (some : 1 ≤ t.symbols) (k : ℕ) where
  -- the symbols of a row without other coefficients are the packet
  held_packet : k - 1 < t.packets → Bare t.packets t.rows (k - 1) → Holds (record { ops = o; table = t }) k (symbols_of t k)
  held_packet h bare = record {
    long = length-drop t.packets row ∙ omega (arith, wide);
    is = λ p agree j hj. get_or-drop t.packets row j 0 ∙ sym (packet_in_row o laws t.packets t.symbols t.rows t.rows (own o laws t.packets t.symbols t.rows sound) (k - 1) h bare p agree j hj);
  }
    where
      row : List ℕ
      row = get_or t.rows (k - 1) []

      wide : length row ≡ t.packets + t.symbols
      wide = (sound.frames (k - 1) (subst (λ (x : ℕ). k - 1 < x) (sym sound.reduced.tall) h)).long

  pub fetched : (b : List ℕ) (r : Result (Unit {0}) RowsFault) (c : List ℕ) → Fetched t k b r c → FetchedBy (record { ops = o; table = t }) k b r c
  fetched b (Ok _) c (ok, bare, is) =
      let asked = packet_passed t k (length b) (sym ok) in
      let h : k - 1 < t.packets = omega (arith, asked.first, asked.last) in (
        ok,
        (determined_rows o laws t.packets t.symbols t.rows t.rows (own o laws t.packets t.symbols t.rows sound) some (k - 1) h).1 bare,
        subst (Holds (record { ops = o; table = t }) k) (sym is) (held_packet h bare),
      )
  fetched b (Err e) c (refused, same) = (
    later (packet_answer t k (length b)) (λ e. (e ≡ NotDetermined) × (Bare t.packets t.rows (k - 1) → ⊥))
        (λ e. (e ≡ NotDetermined) × (Determined o t.packets t.symbols t.rows (k - 1) → ⊥)) e
        (λ ok cause. let asked = packet_passed t k (length b) (sym ok) in
        let h : k - 1 < t.packets = omega (arith, asked.first, asked.last) in
        (cause.0, (λ d. cause.1 ((determined_rows o laws t.packets t.symbols t.rows t.rows (own o laws t.packets t.symbols t.rows sound) some (k - 1) h).0 d))))
        refused,
    same,
  )
