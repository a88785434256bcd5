-- The theorems on reduced forms, from elements to codes. Assumes nothing.
use Rattle.std.proofs.Common.{◌≡◌, ℕ, zero, suc, ◌+◌, ◌<◌, ◌≤◌, List, [], ◌∷◌, map, length, get_or, sym, ap, ◌∙◌, subst, ap₂, inl, inr, suc-le-suc, le_of_suc-le-suc, not-suc-le-zero, arith}
use Rattle.std.proofs.lemmas.Bool.{cases_eq, cases_lt}
use Rattle.std.proofs.lemmas.List.{ext_get_or, get_or-map, get_or_past, length-map}
use Rattle.field.specs.Fields.{Ops, Lawful}
use Rattle.field.proofs.Arithmetic.{zero-mul, mul-zero, sub_self, sub_zero_same}
use Rattle.field.proofs.Elements.{Element, same_code, inverse_code}
use Rattle.algebra.specs.Frames.{code_at, Codes, Frame, Frames, InSpan}
use Rattle.algebra.specs.Rows.{row_at, ReducedForm, rest_at, scaled_at, Inserted}
use Rattle.algebra.specs.Packets as packets
use Rattle.algebra.specs.Packets.{Seen, AgreesAll, Bare, BecomesSeen}
use Rattle.algebra.specs.Theorems.{OneForm, SeenRows, NothingLeft, DeterminedRows, PacketInRow, SomeContents, EmptyForm, SameForm, InsertedForm, InsertedSeen, JoinedForm, SymbolLeft, NoContents, AcceptedFrames}
use Rattle.algebra.proofs.Sums.{summed_none, summed_same}
use Rattle.algebra.proofs.Vectors.{Vector, All, all_from, all_at, span_under}
use Rattle.algebra.proofs.Tables.{Reduced, image, Fixed, SeenIn, seen_row, row_seen, one_table, row_fixed, image_fixed}
use Rattle.algebra.proofs.Insertion.{Stands, stands_none, stands_same, rest, rest_lead, fixed_rest, rest_fixed, scaled, reduced_inserted, stands_inserted}
use Rattle.algebra.proofs.Contents.{Contents, Agrees, Determined, own, own_agrees, agrees_span, agrees_frames, bare_packet, determined_unit, bare_determined, unit, unit_same, unit_other}
use Rattle.algebra.proofs.Bridge.{k, table, vector, vector_code, summed_code, span_up, span_down, row_code, reduced_up, reduced_down, stands_up, stands_down}

module _ (o : Ops) (laws : Lawful o) (n l : ℕ) (fs rs : List (List ℕ)) (form : ReducedForm o n l fs rs) where
  pub reduced : Reduced (k o laws) n (table o laws rs)
  reduced = reduced_up o laws n l rs form.rows_frames form.reduced

  pub stands : Stands (k o laws) n (table o laws rs) (map (vector o laws) fs)
  stands = stands_up o laws n l rs form.rows_frames form.reduced.tall reduced fs form.frames form.same_span

  -- a code of a row, as an element and as a number
  pub at : (m i : ℕ) → (table o laws rs m i).0 ≡ row_at rs m i
  at = row_code o laws n l rs form.rows_frames

  pub frame_codes : (m : ℕ) → m < length fs → Codes o.size (get_or fs m [])
  frame_codes m h = (form.frames m h).codes

  is_one : (m : ℕ) → row_at rs m m ≡ 1 → table o laws rs m m ≡ (k o laws).one
  is_one m e = same_code (at m m ∙ e)

  -- what is left of a frame
  pub rest_code : (f : List ℕ) → Codes o.size f → (i : ℕ) → (rest (k o laws) n (table o laws rs) reduced (vector o laws f) i).0 ≡ rest_at o n rs f i
  unfolding image
  rest_code f h i =
      ap₂ o.difference (vector_code o laws f h i)
      (summed_code o laws n (λ m. (k o laws).mul (vector o laws f m) (table o laws rs m i)) (λ m. o.product (code_at f m) (row_at rs m i))
      (λ m _. ap₂ o.product (vector_code o laws f h m) (at m i)))

  -- contents that agree, as elements and as numbers
  contents : packets.Contents o.size → Contents {F = Element o} (k o laws) n l
  contents p m j = (p.symbol m j, p.codes m j)

  numbers : Contents {F = Element o} (k o laws) n l → packets.Contents o.size
  numbers p = record { symbol = λ m j. (p m j).0; codes = λ m j. (p m j).1 }

  agrees_code : (p : Contents {F = Element o} (k o laws) n l) (f : List ℕ) → Codes o.size f → Agrees (k o laws) n l p (vector o laws f) → packets.Agrees o n l (numbers p) f
  unfolding Agrees numbers
  agrees_code p f h a j hj =
      sym (vector_code o laws f h (n + j)) ∙ ap (λ x. x.0) (a j hj)
      ∙ summed_code o laws n (λ m. (k o laws).mul (vector o laws f m) (p m j)) (λ m. o.product (code_at f m) (p m j).0) (λ m _. ap (λ x. o.product x (p m j).0) (vector_code o laws f h m))

  code_agrees : (p : packets.Contents o.size) (f : List ℕ) → Codes o.size f → packets.Agrees o n l p f → Agrees (k o laws) n l (contents p) (vector o laws f)
  unfolding Agrees contents
  code_agrees p f h a j hj =
      same_code (vector_code o laws f h (n + j) ∙ a j hj
      ∙ sym (summed_code o laws n (λ m. (k o laws).mul (vector o laws f m) (contents p m j)) (λ m. o.product (code_at f m) (p.symbol m j)) (λ m _. ap (λ x. o.product x (p.symbol m j)) (vector_code o laws f h m))))

  none : Vector (Element o)
  none i = (k o laws).zero

  agrees_all : (p : packets.Contents o.size) → AgreesAll o n l p fs → All (k o laws) (Agrees (k o laws) n l (contents p)) (map (vector o laws) fs)
  agrees_all p a =
      all_from (k o laws) (Agrees (k o laws) n l (contents p)) (map (vector o laws) fs) none
      (λ m h. let here : m < length fs = subst (λ (x : ℕ). m < x) (length-map fs (vector o laws)) h in
      subst (Agrees (k o laws) n l (contents p)) (sym (get_or-map (vector o laws) fs m [] none here)) (code_agrees p (get_or fs m []) (frame_codes m here) (a m here)))

  all_agrees : (p : Contents {F = Element o} (k o laws) n l) → All (k o laws) (Agrees (k o laws) n l p) (map (vector o laws) fs) → AgreesAll o n l (numbers p) fs
  all_agrees p a m h =
      agrees_code p (get_or fs m []) (frame_codes m h)
      (subst (Agrees (k o laws) n l p) (get_or-map (vector o laws) fs m [] none h)
      (all_at (k o laws) (Agrees (k o laws) n l p) (map (vector o laws) fs) none a m (subst (λ (x : ℕ). m < x) (sym (length-map fs (vector o laws))) h)))

  -- seen
  seen_in : (m : ℕ) → Seen o fs m → SeenIn (k o laws) n (Fixed (k o laws) n (table o laws rs)) m
  seen_in m s = record {
    vector = λ i. (s.vector i, s.codes i);
    inside = stands.up (λ i. (s.vector i, s.codes i)) (span_up o laws fs frame_codes (λ i. (s.vector i, s.codes i)) s.inside);
    one_there = same_code s.one_there;
    zero_before = λ i h. same_code (s.zero_before i h);
  }

  in_seen : (m : ℕ) → SeenIn (k o laws) n (Fixed (k o laws) n (table o laws rs)) m → Seen o fs m
  in_seen m s = record {
    vector = λ i. (s.vector i).0;
    codes = λ i. (s.vector i).1;
    inside = span_down o laws fs frame_codes s.vector (stands.down s.vector s.inside);
    one_there = ap (λ x. x.0) s.one_there;
    zero_before = λ i h. ap (λ x. x.0) (s.zero_before i h);
  }

  -- a frame in the span, as a vector
  in_span : (f : List ℕ) → Codes o.size f → InSpan o fs (code_at f) → Fixed (k o laws) n (table o laws rs) (vector o laws f)
  in_span f h s =
      stands.up (vector o laws f) (span_up o laws fs frame_codes (vector o laws f)
      (record { multiple = s.multiple; codes = s.codes; is = λ i. vector_code o laws f h i ∙ s.is i }))

  span_in : (f : List ℕ) → Codes o.size f → Fixed (k o laws) n (table o laws rs) (vector o laws f) → InSpan o fs (code_at f)
  span_in f h fixed =
      let s = span_down o laws fs frame_codes (vector o laws f) (stands.down (vector o laws f) fixed) in
      record { multiple = s.multiple; codes = s.codes; is = λ i. sym (vector_code o laws f h i) ∙ s.is i }

  -- a row with no coefficient but its lead, as elements
  units : (m : ℕ) → Bare n rs m → (b : ℕ) → b < n → table o laws rs m b ≡ unit (k o laws) n l b m
  units m bare b h =
      elim (cases_eq b m) [
        | inl e ↦ same_code (at m b ∙ ap (row_at rs m) e ∙ bare.lead) ∙ sym (ap (λ x. unit (k o laws) n l x m) e ∙ unit_same (k o laws) n l m)
        | inr ne ↦ same_code (at m b ∙ bare.others b h ne) ∙ sym (unit_other (k o laws) n l b m (λ z. ne (sym z)))
      ]

  bare_row : (m : ℕ) → m < n → ((b : ℕ) → b < n → table o laws rs m b ≡ unit (k o laws) n l b m) → Bare n rs m
  bare_row m h u = record {
    lead = sym (at m m) ∙ ap (λ x. x.0) (u m h ∙ unit_same (k o laws) n l m);
    others = λ i hi ne. sym (at m i) ∙ ap (λ x. x.0) (u i hi ∙ unit_other (k o laws) n l i m (λ z. ne (sym z)));
  }

  determined_up : (m : ℕ) → packets.Determined o n l fs m → Determined (k o laws) n l (map (vector o laws) fs) m
  unfolding Determined numbers
  determined_up m d p q hp hq j hj = same_code (d (numbers p) (numbers q) (all_agrees p hp) (all_agrees q hq) j hj)

  determined_down : (m : ℕ) → Determined (k o laws) n l (map (vector o laws) fs) m → packets.Determined o n l fs m
  unfolding Determined contents
  determined_down m d p q hp hq j hj = ap (λ x. x.0) (d (contents p) (contents q) (agrees_all p hp) (agrees_all q hq) j hj)

pub seen_rows : SeenRows
seen_rows o laws n l fs rs form m h = (
  (λ e. in_seen o laws n l fs rs form m (seen_row (k o laws) n (table o laws rs) (reduced o laws n l fs rs form) m h (is_one o laws n l fs rs form m e))),
  (λ s. sym (at o laws n l fs rs form m m) ∙ ap (λ x. x.0) (row_seen (k o laws) n (table o laws rs) (reduced o laws n l fs rs form) m h (seen_in o laws n l fs rs form m s))),
)

pub nothing_left : NothingLeft
nothing_left o laws n l fs rs form f frame =
    let r = reduced o laws n l fs rs form in
    let code = rest_code o laws n l fs rs form f frame.codes in (
      (λ s i. sym (code i) ∙ ap (λ x. x.0) (fixed_rest (k o laws) n (table o laws rs) r (vector o laws f) (in_span o laws n l fs rs form f frame.codes s) i)),
      (λ z. span_in o laws n l fs rs form f frame.codes (rest_fixed (k o laws) n (table o laws rs) r (vector o laws f) (λ i. same_code (code i ∙ z i)))),
    )

pub determined_rows : DeterminedRows
determined_rows o laws n l fs rs form some m h = (
  (λ d. bare_row o laws n l fs rs form m h
      (determined_unit (k o laws) n l (table o laws rs) (map (vector o laws) fs) (stands o laws n l fs rs form) some m h (determined_up o laws n l fs rs form m d))),
  (λ b. determined_down o laws n l fs rs form m
      (bare_determined (k o laws) n l (table o laws rs) (map (vector o laws) fs) (reduced o laws n l fs rs form) (stands o laws n l fs rs form) m h (units o laws n l fs rs form m b))),
)

pub packet_in_row : PacketInRow
unfolding contents
packet_in_row o laws n l fs rs form m h bare p agree j hj =
    let r = reduced o laws n l fs rs form in
    ap (λ x. x.0)
    (bare_packet (k o laws) n l (table o laws rs) r m h (same_code (at o laws n l fs rs form m m ∙ bare.lead)) (λ i hi ne. same_code (at o laws n l fs rs form m i ∙ bare.others i hi ne))
    (contents o laws n l fs rs form p)
    (agrees_span (k o laws) n l (table o laws rs) (map (vector o laws) fs) (stands o laws n l fs rs form) (contents o laws n l fs rs form p) (agrees_all o laws n l fs rs form p agree)
    (table o laws rs m) (row_fixed (k o laws) n (table o laws rs) r m h)) j hj)
    ∙ at o laws n l fs rs form m (n + j)

pub some_contents : SomeContents
some_contents o laws n l fs rs form =
    let mine = own (k o laws) n l (table o laws rs) in (
      numbers o laws n l fs rs form mine,
      all_agrees o laws n l fs rs form mine
          (agrees_frames (k o laws) n l (table o laws rs) (map (vector o laws) fs) (stands o laws n l fs rs form) mine (own_agrees (k o laws) n l (table o laws rs))),
    )

pub one_form : OneForm
one_form o laws n l fs rs us form other =
    ext_get_or [] rs us (form.reduced.tall ∙ sym other.reduced.tall) same_row
  where
    same_row : (m : ℕ) → m < length rs → get_or rs m [] ≡ get_or us m []
    same_row m h =
        let hu : m < length us = subst (λ (x : ℕ). m < x) (form.reduced.tall ∙ sym other.reduced.tall) h in
        ext_get_or 0 (get_or rs m []) (get_or us m []) ((form.rows_frames m h).long ∙ sym (other.rows_frames m hu).long)
        (λ i _. sym (at o laws n l fs rs form m i)
        ∙ ap (λ x. x.0) (one_table (k o laws) n (table o laws rs) (table o laws us) (reduced o laws n l fs rs form) (reduced o laws n l fs us other)
        (λ v fixed. (stands o laws n l fs us other).up v ((stands o laws n l fs rs form).down v fixed))
        (λ v fixed. (stands o laws n l fs rs form).up v ((stands o laws n l fs us other).down v fixed))
        m (subst (λ (x : ℕ). m < x) form.reduced.tall h) i)
        ∙ at o laws n l fs us other m i)

pub empty_form : EmptyForm
empty_form o laws n l rs shaped tall blank =
    let t = table o laws rs in
    let zeros : (m i : ℕ) → t m i ≡ (k o laws).zero = λ m i. same_code (row_code o laws n l rs shaped m i ∙ blank m i) in
    let r : Reduced (k o laws) n t = record { lead = λ m h. inr (zeros m); before = λ m i h a. zeros m i; column = λ j m hj hm e ne. zeros j m } in
    record {
      frames = λ m h. absurd (not-suc-le-zero h);
      rows_frames = shaped;
      reduced = reduced_down o laws n l rs shaped tall r;
      same_span = stands_down o laws n l rs shaped tall r [] (λ m h. absurd (not-suc-le-zero h)) (stands_none (k o laws) n t zeros);
    }

-- one frame more before others
more_frames : (q w : ℕ) (f : List ℕ) (fs : List (List ℕ)) → Frame q w f → Frames q w fs → Frames q w (f ∷ fs)
more_frames q w f fs frame framed zero h = frame
more_frames q w f fs frame framed (suc m) h = framed m (le_of_suc-le-suc h)

pub same_form : SameForm
same_form o laws n l fs rs form f frame left =
    let r = reduced o laws n l fs rs form in
    let code = rest_code o laws n l fs rs form f frame.codes in
    let framed = more_frames o.size (n + l) f fs frame form.frames in
    record {
      frames = framed;
      rows_frames = form.rows_frames;
      reduced = form.reduced;
      same_span = stands_down o laws n l rs form.rows_frames form.reduced.tall r (f ∷ fs) framed
          (stands_same (k o laws) n (table o laws rs) r (vector o laws f) (map (vector o laws) fs) (stands o laws n l fs rs form)
          (rest_fixed (k o laws) n (table o laws rs) r (vector o laws f) (λ i. same_code (code i ∙ left i))));
    }

-- past its width a row is 0
past_row : (o : Ops) (laws : Lawful o) (n l : ℕ) (xs : List (List ℕ)) → Frames o.size (n + l) xs → length xs ≡ n → (m j : ℕ) → m < n → n + l ≤ j
    → table o laws xs m j ≡ (k o laws).zero
past_row o laws n l xs shaped tall m j hm hj =
    same_code (row_code o laws n l xs shaped m j ∙ get_or_past (get_or xs m []) j 0 (subst (λ (w : ℕ). w ≤ j) (sym (shaped m (subst (λ (x : ℕ). m < x) (sym tall) hm)).long) hj))

module _ (o : Ops) (laws : Lawful o) (n l : ℕ) (fs rs : List (List ℕ)) (form : ReducedForm o n l fs rs) (f : List ℕ) (frame : Frame o.size (n + l) f) where
  -- past the width nothing is left
  past_rest : (i : ℕ) → n + l ≤ i → rest (k o laws) n (table o laws rs) (reduced o laws n l fs rs form) (vector o laws f) i ≡ (k o laws).zero
  unfolding image
  past_rest i h =
      ap₂ (k o laws).sub (same_code (vector_code o laws f frame.codes i ∙ get_or_past f i 0 (subst (λ (w : ℕ). w ≤ i) (sym frame.long) h)))
      (summed_none (k o laws) n (λ m. (k o laws).mul (vector o laws f m) (table o laws rs m i)) (λ m hm. ap ((k o laws).mul (vector o laws f m)) (past_row o laws n l rs form.rows_frames form.reduced.tall m i hm h) ∙ mul-zero (k o laws) (vector o laws f m)))
      ∙ sub_self (k o laws) (k o laws).zero

  pub rest_past : (i : ℕ) → n + l ≤ i → rest_at o n rs f i ≡ 0
  rest_past i h = sym (rest_code o laws n l fs rs form f frame.codes i) ∙ ap (λ x. x.0) (past_rest i h)

module _ (o : Ops) (laws : Lawful o) (n l : ℕ) (fs rs : List (List ℕ)) (form : ReducedForm o n l fs rs) (f : List ℕ) (frame : Frame o.size (n + l) f)
    (a : ℕ) (ha : a < n) (some : 0 < rest_at o n rs f a) (low : (i : ℕ) → i < a → rest_at o n rs f i ≡ 0) (us : List (List ℕ)) (put : Inserted o n l rs f a us) where
  left : (i : ℕ) → (rest (k o laws) n (table o laws rs) (reduced o laws n l fs rs form) (vector o laws f) i).0 ≡ rest_at o n rs f i
  left = rest_code o laws n l fs rs form f frame.codes

  remains : rest (k o laws) n (table o laws rs) (reduced o laws n l fs rs form) (vector o laws f) a ≡ (k o laws).zero → ⊥
  remains e = absurd (omega (arith, sym (left a) ∙ ap (λ x. x.0) e))

  below : (i : ℕ) → i < a → rest (k o laws) n (table o laws rs) (reduced o laws n l fs rs form) (vector o laws f) i ≡ (k o laws).zero
  below i h = same_code (left i ∙ low i h)

  new_row : Vector (Element o)
  new_row = scaled (k o laws) n (table o laws rs) (reduced o laws n l fs rs form) (vector o laws f) a ha remains below

  new_code : (i : ℕ) → (new_row i).0 ≡ scaled_at o n rs f a i
  unfolding new_row
  new_code i =
      ap₂ o.product
      (inverse_code o laws (rest (k o laws) n (table o laws rs) (reduced o laws n l fs rs form) (vector o laws f) a).0 (rest (k o laws) n (table o laws rs) (reduced o laws n l fs rs form) (vector o laws f) a).1
      (subst (λ (x : ℕ). 0 < x) (sym (left a)) some)
      ∙ ap o.inverse (left a))
      (left i)

  none_past : (i : ℕ) → n + l ≤ i → new_row i ≡ (k o laws).zero
  unfolding new_row
  none_past i g = ap ((k o laws).mul ((k o laws).inv (rest (k o laws) n (table o laws rs) (reduced o laws n l fs rs form) (vector o laws f) a))) (past_rest o laws n l fs rs form f frame i g) ∙ mul-zero (k o laws) _

  -- the row put in, and the others
  new_all : (i : ℕ) → table o laws us a i ≡ new_row i
  unfolding new_row
  new_all i =
      elim (cases_lt i (n + l)) [
        | inl h ↦ same_code (row_code o laws n l us put.rows_frames a i ∙ put.new i h ∙ sym (new_code i))
        | inr g ↦ past_row o laws n l us put.rows_frames put.tall a i ha g ∙ sym (none_past i g)
      ]

  old_all : (m : ℕ) → m < n → (m ≡ a → ⊥) → (i : ℕ) → table o laws us m i ≡ (k o laws).sub (table o laws rs m i) ((k o laws).mul (table o laws rs m a) (new_row i))
  unfolding new_row
  old_all m hm ne i =
      elim (cases_lt i (n + l)) [
        | inl h ↦ same_code (row_code o laws n l us put.rows_frames m i ∙ put.old m hm ne i h
            ∙ sym (ap₂ o.difference (at o laws n l fs rs form m i) (ap₂ o.product (at o laws n l fs rs form m a) (new_code i))))
        | inr g ↦ past_row o laws n l us put.rows_frames put.tall m i hm g
            ∙ sym (ap₂ (λ x y. (k o laws).sub x ((k o laws).mul (table o laws rs m a) y)) (past_row o laws n l rs form.rows_frames form.reduced.tall m i hm g) (none_past i g)
            ∙ ap ((k o laws).sub (k o laws).zero) (mul-zero (k o laws) (table o laws rs m a)) ∙ sub_self (k o laws) (k o laws).zero)
      ]

  inserted : ReducedForm o n l (f ∷ fs) us
  unfolding new_row
  inserted =
      let t = table o laws rs in
      let u = table o laws us in
      let r = reduced o laws n l fs rs form in
      let after = reduced_inserted (k o laws) n t r (vector o laws f) a ha remains below u new_all old_all in
      let framed = more_frames o.size (n + l) f fs frame form.frames in
      record {
        frames = framed;
        rows_frames = put.rows_frames;
        reduced = reduced_down o laws n l us put.rows_frames put.tall after;
        same_span = stands_down o laws n l us put.rows_frames put.tall after (f ∷ fs) framed
            (stands_inserted (k o laws) n t r (vector o laws f) a ha remains below u new_all old_all (map (vector o laws) fs) (stands o laws n l fs rs form));
      }

  -- the packets that become seen
  own_row : row_at us a a ≡ 1
  own_row =
      put.new a (omega arith)
      ∙ laws.product_comm _ _ (laws.inverse_closed _ some rest_small) rest_small ∙ laws.product_inverse _ some rest_small
    where
      rest_small : rest_at o n rs f a < o.size
      rest_small = subst (λ (x : ℕ). x < o.size) (left a) (rest (k o laws) n (table o laws rs) (reduced o laws n l fs rs form) (vector o laws f) a).1

  still_missing : (m : ℕ) → m < n → (m ≡ a → ⊥) → ((i : ℕ) → row_at rs m i ≡ 0) → row_at us m m ≡ 0
  still_missing m h ne blank =
      let zeros : (i : ℕ) → table o laws rs m i ≡ (k o laws).zero = λ i. same_code (at o laws n l fs rs form m i ∙ blank i) in
      sym (row_code o laws n l us put.rows_frames m m)
      ∙ ap (λ x. x.0) (old_all m h ne m ∙ ap₂ (λ x y. (k o laws).sub x ((k o laws).mul y (new_row m))) (zeros m) (zeros a)
      ∙ ap ((k o laws).sub (k o laws).zero) (zero-mul (k o laws) (new_row m)) ∙ sub_self (k o laws) (k o laws).zero)

  becomes_seen : BecomesSeen o n fs f a
  becomes_seen = record {
    within = ha;
    after = (seen_rows o laws n l (f ∷ fs) us inserted a ha).0 own_row;
    before = λ s. remains (rest_lead (k o laws) n (table o laws rs) (reduced o laws n l fs rs form) (vector o laws f) a ha
        (same_code (at o laws n l fs rs form a a ∙ (seen_rows o laws n l fs rs form a ha).1 s)));
    alone = λ m h ne s. elim (form.reduced.lead m h) [
      | inl one ↦ (seen_rows o laws n l fs rs form m h).0 one
      | inr blank ↦ absurd (omega (arith, still_missing m h ne blank, (seen_rows o laws n l (f ∷ fs) us inserted m h).1 s))
    ];
  }

pub inserted_form : InsertedForm
inserted_form = inserted

pub inserted_seen : InsertedSeen
inserted_seen = becomes_seen

-- spans of frames that are ordered stay so with one frame more
span_over : (o : Ops) → Lawful o → (n l : ℕ) (f : List ℕ) (gs fs : List (List ℕ)) → Frames o.size (n + l) (f ∷ gs) → Frames o.size (n + l) (f ∷ fs)
    → ((v : ℕ → ℕ) → ((i : ℕ) → v i < o.size) → InSpan o gs v → InSpan o fs v)
    → (v : ℕ → ℕ) → ((i : ℕ) → v i < o.size) → InSpan o (f ∷ gs) v → InSpan o (f ∷ fs) v
span_over o laws n l f gs fs hg hf inside v h s =
    span_down o laws (f ∷ fs) (λ m a. (hf m a).codes) (λ i. (v i, h i))
    (span_under (k o laws) (vector o laws f) (map (vector o laws) gs) (map (vector o laws) fs)
    (λ w a. span_up o laws fs (λ m b. (hf (suc m) (suc-le-suc b)).codes) w
    (inside (λ i. (w i).0) (λ i. (w i).1) (span_down o laws gs (λ m b. (hg (suc m) (suc-le-suc b)).codes) w a)))
    (λ i. (v i, h i)) (span_up o laws (f ∷ gs) (λ m a. (hg m a).codes) (λ i. (v i, h i)) s))

pub joined_form : JoinedForm
joined_form o laws n l fs rs form f us joined =
    let framed = more_frames o.size (n + l) f fs (joined.frames 0 (omega arith)) form.frames in
    record {
      frames = framed;
      rows_frames = joined.rows_frames;
      reduced = joined.reduced;
      same_span = record {
        down = λ v h s. span_over o laws n l f rs fs joined.frames framed form.same_span.down v h (joined.same_span.down v h s);
        up = λ v h s. joined.same_span.up v h (span_over o laws n l f fs rs framed joined.frames form.same_span.up v h s);
      };
    }

pub symbol_left : SymbolLeft
symbol_left o laws n l fs rs form f frame bare j hj some =
    let t = table o laws rs in
    let r = reduced o laws n l fs rs form in
    let v = vector o laws f in
    let code = rest_code o laws n l fs rs form f frame.codes in
    let made = image (k o laws) n t v in
    record {
      combined = λ i. (made i).0;
      codes = λ i. (made i).1;
      inside = span_down o laws fs (frame_codes o laws n l fs rs form) made ((stands o laws n l fs rs form).down made (image_fixed (k o laws) n t r v));
      coefficients = λ i h. ap (λ x. x.0) (sym (sub_zero_same (k o laws) (v i) (made i) (same_code (code i ∙ bare i h)))) ∙ vector_code o laws f frame.codes i;
      place = j;
      within = hj;
      symbol = λ e.
          let alike : made (n + j) ≡ v (n + j) = same_code (e ∙ sym (vector_code o laws f frame.codes (n + j))) in
          absurd (omega (arith, some, sym (code (n + j)) ∙ ap (λ x. x.0) (ap ((k o laws).sub (v (n + j))) alike ∙ sub_self (k o laws) (v (n + j)))));
    }

pub no_contents : NoContents
unfolding Agrees
no_contents o laws n l fs rs form f frame conflict p agree =
    let c = contents o laws n l fs rs form p in
    let v : Vector (Element o) = λ i. (conflict.combined i, conflict.codes i) in
    let j = conflict.place in
    let fixed = (stands o laws n l fs rs form).up v (span_up o laws fs (frame_codes o laws n l fs rs form) v conflict.inside) in
    let made = agrees_span (k o laws) n l (table o laws rs) (map (vector o laws) fs) (stands o laws n l fs rs form) c
    (agrees_all o laws n l fs rs form p (λ m h. agree (suc m) (suc-le-suc h))) v fixed j conflict.within in
    let told = code_agrees o laws n l fs rs form p f frame.codes (agree 0 (omega arith)) j conflict.within in
    conflict.symbol
    (ap (λ x. x.0) (made
    ∙ summed_same (k o laws) n (λ m. (k o laws).mul (v m) (c m j)) (λ m. (k o laws).mul (vector o laws f m) (c m j))
    (λ m h. ap (λ x. (k o laws).mul x (c m j)) (same_code (conflict.coefficients m h ∙ sym (vector_code o laws f frame.codes m))))
    ∙ sym told) ∙ vector_code o laws f frame.codes (n + j))

pub accepted_frames : AcceptedFrames
accepted_frames o laws n l fs rs form f frame bare p agree j h =
    elim (cases_lt 0 (rest_at o n rs f (n + j))) [
      | inl some ↦ absurd (no_contents o laws n l fs rs form f frame (symbol_left o laws n l fs rs form f frame bare j h some) p agree)
      | inr none ↦ omega arith
    ]
