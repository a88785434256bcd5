-- A relay keeps its promise. Assumes nothing.
use Rattle.std.proofs.Common.{◌≡◌, ℕ, zero, suc, ◌+◌, ◌-◌, ◌^◌, ◌<◌, ◌≤◌, true, ◌↔◌, List, [], ◌∷◌, length, is_ok, Some, Ok, Err, Option, Result, sym, refl, ap, ◌∙◌, subst, inl, inr, arith}
use Rattle.std.proofs.lemmas.Bool.{cases_eq, false≢true}
use Rattle.faults.proofs.Passed.{passed_later}
use Rattle.field.specs.Fields.{Ops, Lawful}
use Rattle.algebra.specs.Frames.{code_at, Frame, InSpan}
use Rattle.algebra.specs.Packets.{Seen, Contents, AgreesAll, Determined, Conflicts}
use Rattle.algebra.specs.Rows.{ReducedForm}
use Rattle.algebra.proofs.Forms.{seen_rows, nothing_left, determined_rows, packet_in_row, some_contents, empty_form, same_form, joined_form, no_contents}
use Rattle.elimination.specs.declared.fault.RowsFault.{RowsFault}
use Rattle.elimination.specs.declared.fault.RowsFault.TheVariants.{Conflict, NotDetermined}
use Rattle.elimination.specs.Tables.{Held, empty_table, frame_answer, Shows, seen_set, packet_answer}
use Rattle.elimination.proofs.Accepting.{InRange, frame_passed, frame_passes, packet_passed, packet_passes}
use Rattle.elimination.proofs.Tabling.{sound_empty, zero_rows}
use Rattle.relay.specs.Calls.{Hears, HeardBy, seen_answer, Fetches, FetchedBy}
use Rattle.relay.specs.Promise.{Hearing, Reached, added, accepted, Has, Acceptable, Promise}
use Rattle.relay.specs.States.{State, holding}
use Rattle.relay.proofs.Bits.{seen_below, seen_bit}

-- a relay in state t whose rows are the reduced form of these frames
record Standing (o : Ops) (n l : ℕ) (fs : List (List ℕ)) (t : Option State) : Type 0 where
  rows : List (List ℕ)
  holds : t ≡ Some (holding o n l rows)
  form : ReducedForm o n l fs rows

module _ (o : Ops) (laws : Lawful o) (n l : ℕ) where
  -- what a table holds, by its parts
  whole : (u : Held) → u.size ≡ o.size → u.packets ≡ n → u.symbols ≡ l → Some (record { ops = o; table = u }) ≡ Some (holding o n l u.rows)
  whole u es en el i = Some (record { ops = o; table = record { size = es i; packets = en i; symbols = el i; rows = u.rows } })

  standing_first : Standing o n l [] (Some (record { ops = o; table = empty_table o.size n l }))
  standing_first =
      let rows = (empty_table o.size n l).rows in
      let sound = sound_empty o.size n l (omega (arith, laws.size_least)) in
      record { rows = rows; holds = refl; form = empty_form o laws n l rows sound.frames sound.reduced.tall (zero_rows n (n + l)) }

  module _ (fs rows : List (List ℕ)) (form : ReducedForm o n l fs rows) where
    own : ReducedForm o n l rows rows
    own = record { frames = form.rows_frames; rows_frames = form.rows_frames; reduced = form.reduced; same_span = record { down = λ v h s. s; up = λ v h s. s } }

    -- packets seen by the rows are those seen by the frames
    seen_by : (m : ℕ) → m < n → Seen o rows m → Seen o fs m
    seen_by m h s = (seen_rows o laws n l fs rows form m h).0 ((seen_rows o laws n l rows rows own m h).1 s)

    by_seen : (m : ℕ) → m < n → Seen o fs m → Seen o rows m
    by_seen m h s = (seen_rows o laws n l rows rows own m h).0 ((seen_rows o laws n l fs rows form m h).1 s)

    -- so are those determined
    determined_by : 0 < l → (m : ℕ) → m < n → Determined o n l rows m → Determined o n l fs m
    determined_by some m h d = (determined_rows o laws n l fs rows form some m h).1 ((determined_rows o laws n l rows rows own some m h).0 d)

    by_determined : 0 < l → (m : ℕ) → m < n → Determined o n l fs m → Determined o n l rows m
    by_determined some m h d = (determined_rows o laws n l rows rows own some m h).1 ((determined_rows o laws n l fs rows form some m h).0 d)

    module _ (f : List ℕ) where
      frame_of : frame_answer o (holding o n l rows).table f ≡ Ok tt → Frame o.size (n + l) f
      frame_of ok = (frame_passed o (holding o n l rows).table f (sym ok)).frame

      form_same : Frame o.size (n + l) f → InSpan o rows (code_at f) → ReducedForm o n l (f ∷ fs) rows
      form_same frame inside = same_form o laws n l fs rows form f frame ((nothing_left o laws n l rows rows own f frame).0 inside)

      form_more : (a : ℕ) (u : Held) → Shows o (holding o n l rows).table f a u → ReducedForm o n l (f ∷ fs) u.rows
      form_more a u put = joined_form o laws n l fs rows form f u.rows put.form

      acceptable : (others : List (List ℕ)) → Frame o.size (n + l) f → ReducedForm o n l (f ∷ fs) others → Acceptable o n l fs f
      acceptable others frame after = (frame, some_contents o laws n l (f ∷ fs) others after)

      -- one hearing more
      step : (r : Result ℕ RowsFault) (t : Option State) → HeardBy (holding o n l rows) f r t → Standing o n l (added r f fs) t
      step (Ok zero) t (ok, inside, same) = record { rows = rows; holds = same; form = form_same (frame_of ok) inside }
      step (Ok (suc a)) t (ok, (u, (put, is))) = record { rows = u.rows; holds = is ∙ whole u put.size put.packets put.symbols; form = form_more a u put }
      step (Err e) t (refused, same) = record { rows = rows; holds = same; form = form }

      -- what is refused is not acceptable
      refused_none : (e : RowsFault) (t : Option State) → HeardBy (holding o n l rows) f (Err e) t → Acceptable o n l fs f → ⊥
      refused_none e t (refused, same) (frame, (p, agree)) =
          let table = (holding o n l rows).table in
          let ok = frame_passes o table f (record { field = refl; frame = frame }) in
          let conflict = (passed_later (frame_answer o table f) (λ e. (e ≡ Conflict) × Conflicts o n l rows f) e ok refused).1 in
          no_contents o laws n l fs rows form f frame
          (record {
            combined = conflict.combined;
            codes = conflict.codes;
            inside = form.same_span.down conflict.combined conflict.codes conflict.inside;
            coefficients = conflict.coefficients;
            place = conflict.place;
            within = conflict.within;
            symbol = conflict.symbol;
          }) p agree

      accepts : (r : Result ℕ RowsFault) (t : Option State) → HeardBy (holding o n l rows) f r t → (is_ok r ≡ true) ↔ Acceptable o n l fs f
      accepts (Ok zero) t (ok, inside, same) = ((λ _. acceptable rows (frame_of ok) (form_same (frame_of ok) inside)), (λ _. refl))
      accepts (Ok (suc a)) t (ok, (u, (put, is))) = ((λ _. acceptable u.rows (frame_of ok) (form_more a u put)), (λ _. refl))
      accepts (Err e) t heard = ((λ z. absurd (false≢true z)), (λ a. absurd (refused_none e t heard a)))

      shows : (r : Result ℕ RowsFault) (t : Option State) → HeardBy (holding o n l rows) f r t → (m : ℕ) → m < n
          → (r ≡ Ok (suc m)) ↔ (Acceptable o n l fs f × (Seen o (f ∷ fs) m × (Seen o fs m → ⊥)))
      shows (Ok zero) t (ok, inside, same) m h = (
        (λ e. absurd (cc)),
        (λ s. absurd (s.1.1 ((seen_rows o laws n l fs rows form m h).0 ((seen_rows o laws n l (f ∷ fs) rows (form_same (frame_of ok) inside) m h).1 s.1.0)))),
      )
      shows (Ok (suc a)) t (ok, (u, (put, is))) m h =
          let after = form_more a u put in
          let up : (j : ℕ) → j < n → Seen o (f ∷ rows) j → Seen o (f ∷ fs) j = λ j hj s.
          (seen_rows o laws n l (f ∷ fs) u.rows after j hj).0 ((seen_rows o laws n l (f ∷ rows) u.rows put.form j hj).1 s) in
          let down : (j : ℕ) → j < n → Seen o (f ∷ fs) j → Seen o (f ∷ rows) j = λ j hj s.
          (seen_rows o laws n l (f ∷ rows) u.rows put.form j hj).0 ((seen_rows o laws n l (f ∷ fs) u.rows after j hj).1 s) in (
            (λ e. let same : a ≡ m = cc in (
              acceptable u.rows (frame_of ok) after,
              (up m h (subst (Seen o (f ∷ rows)) same put.shows.after), (λ s. put.shows.before (subst (Seen o rows) (sym same) (by_seen m h s)))),
            )),
            (λ s. elim (cases_eq m a) [
              | inl e ↦ ap (λ j. Ok (suc j)) (sym e)
              | inr ne ↦ absurd (s.1.1 (seen_by m h (put.shows.alone m h ne (down m h s.1.0))))
            ]),
          )
      shows (Err e) t heard m h = ((λ z. absurd (cc)), (λ s. absurd (refused_none e t heard s.0)))

    -- fetching
    fetches : 0 < l → (k : ℕ) (b : List ℕ) (r : Result (Unit {0}) RowsFault) (c : List ℕ) → FetchedBy (holding o n l rows) k b r c → 1 ≤ k → k ≤ n → length b ≡ l
        → (is_ok r ≡ true) ↔ Determined o n l fs (k - 1)
    fetches some k b (Ok _) c (ok, d, is) first last long = let h : k - 1 < n = omega arith in ((λ _. determined_by some (k - 1) h d), (λ _. refl))
    fetches some k b (Err e) c (refused, same) first last long =
        let table = (holding o n l rows).table in
        let h : k - 1 < n = omega arith in
        let ok = packet_passes table k (length b) (record { long = long; first = first; last = last }) in
        let cause = passed_later (packet_answer table k (length b)) (λ e. (e ≡ NotDetermined) × (Determined o n l rows (k - 1) → ⊥)) e ok refused in
        ((λ z. absurd (false≢true z)), (λ d. absurd (cause.1 (by_determined some (k - 1) h d))))

    gives : 0 < l → (k : ℕ) (b c : List ℕ) → FetchedBy (holding o n l rows) k b (Ok tt) c → (p : Contents o.size) → AgreesAll o n l p fs → (j : ℕ) → j < l → code_at c j ≡ p.symbol (k - 1) j
    gives some k b c (ok, d, is) p agree j hj =
        let asked = packet_passed (holding o n l rows).table k (length b) (sym ok) in
        let h : k - 1 < n = omega (arith, asked.first, asked.last) in
        let bare = (determined_rows o laws n l rows rows own some (k - 1) h).0 d in
        let mine = some_contents o laws n l rows rows own in
        is.is mine.0 mine.1 j hj ∙ packet_in_row o laws n l rows rows own (k - 1) h bare mine.0 mine.1 j hj
        ∙ sym (packet_in_row o laws n l fs rows form (k - 1) h bare p agree j hj)

  -- whatever was heard since the start
  reached : (hs : List Hearing) (t : Option State) → Reached (Some (record { ops = o; table = empty_table o.size n l })) hs t → Standing o n l (accepted hs) t
  reached [] t same = subst (Standing o n l []) (sym same) standing_first
  reached (h ∷ hs) t (m, (before, hears)) =
      let s = reached hs m before in
      step (accepted hs) s.rows s.form h.frame h.answer t (subst (λ x. Hears x h.frame h.answer t) s.holds hears)

  set_is : (rows : List (List ℕ)) (set : ℕ) (t : Option State) → t ≡ Some (holding o n l rows) → Ok set ≡ seen_answer t → set ≡ seen_set rows n
  set_is rows set t holds told = let e = ap seen_answer holds in cc

  pub keeps : InRange n l → (hs : List Hearing) (t : Option State) → Reached (Some (record { ops = o; table = empty_table o.size n l })) hs t → Promise o n l hs t
  keeps range hs t calls =
      let s = reached hs t calls in
      let fs = accepted hs in
      let rows = s.rows in
      let form = s.form in
      record {
        rows = rows;
        holds = s.holds;
        form = form;
        seen = λ set told m h.
            let bit = seen_bit n rows form.reduced m h in
            let there = seen_rows o laws n l fs rows form m h in
            let is = set_is rows set t s.holds told in (
              (λ b. there.0 (bit.0 (subst (λ (x : ℕ). Has x m) is b))),
              (λ b. subst (λ (x : ℕ). Has x m) (sym is) (bit.1 (there.1 b))),
            );
        no_other = λ set told. subst (λ (x : ℕ). x < 2 ^ n) (sym (set_is rows set t s.holds told)) (seen_below n rows form.reduced n (omega arith));
        accepts = λ f r u hears. accepts fs rows form f r u (subst (λ x. Hears x f r u) s.holds hears);
        shows = λ f r u hears. shows fs rows form f r u (subst (λ x. Hears x f r u) s.holds hears);
        contents = some_contents o laws n l fs rows form;
        fetches = λ k b r c calls. fetches fs rows form range.some_symbols k b r c (subst (λ x. Fetches x k b r c) s.holds calls);
        gives = λ k b c calls. gives fs rows form range.some_symbols k b c (subst (λ x. Fetches x k b (Ok tt) c) s.holds calls);
      }
