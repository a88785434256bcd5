-- Coded sums, term by term: adding one, taking one out, and dividing what is left. Assumes nothing.
use Rattle.std.proofs.Common.{◌≡◌, ℕ, zero, suc, ◌+◌, ◌<◌, ◌≤◌, List, [], ◌∷◌, map, length, get_or, drop, Some, None, Ok, Option, Result, sym, refl, ap, ◌∙◌, subst, subst₂, ap₂, inl, inr, le_trans, not-suc-le-zero, arith, lit≤}
use Rattle.std.specs.List.{range_with_len}
use Rattle.std.proofs.lemmas.List.FromFn.{fill_by_all, get_or-map-range_with_len, length-map-range_with_len}
use Rattle.std.proofs.lemmas.List.{get_or-drop, length-drop, drop_more, drop_all, length-set, length-map, get_or-set_other, get_or-set_same, get_or-map}
use Rattle.std.proofs.lemmas.Bool.{cases_lt, cases_eq}
use Rattle.field.specs.Fields.{Ops, Lawful}
use Rattle.field.specs.Answers.{difference_answer, inverse_answer}
use Rattle.field.proofs.Arithmetic.{mul-zero, sub_negative, add_sub, inv_mul}
use Rattle.field.proofs.Answered.{answered_two, accepts_inverse}
use Rattle.field.proofs.Elements.{elements, not_none, inverse_code}
use Rattle.algebra.specs.Frames.{Codes}
use Rattle.elimination.specs.Rows.{Subtractable, less_at, less_multiple, subtract_answer, subtract_after}
use Rattle.elimination.specs.declared.fault.RowsFault.{RowsFault}
use Rattle.elimination.proofs.Subtraction.{less_closed, get_or_less, length_less, fit_accepted}
use Rattle.repair.specs.declared.coding.Term.{Term}
use Rattle.repair.specs.Coding.{coefficients, packets, coded_at, coded_row, multiple, plus_multiple, Packet, Sendable, Added, Arrived, Scaled}

-- lists made by functions that agree at each place are equal
same_map : (f g : ℕ → ℕ) (n : ℕ) → ((i : ℕ) → i < n → f i ≡ g i) → map f (range_with_len 0 n) ≡ map g (range_with_len 0 n)
same_map f g n h =
    fill_by_all g (map f (range_with_len 0 n)) n 0 (length-map-range_with_len f 0 n)
    (λ i l. get_or-map-range_with_len f 0 n i i 0 l (omega arith) ∙ h i l)

-- four zeros
abbrev pub blank : List ℕ
blank = 0 ∷ 0 ∷ 0 ∷ 0 ∷ []

zeros : (i : ℕ) → get_or blank i 0 ≡ 0
zeros zero = refl
zeros (suc zero) = refl
zeros (suc (suc zero)) = refl
zeros (suc (suc (suc zero))) = refl
zeros (suc (suc (suc (suc i)))) = refl

-- what is left of a packet is a packet
pub subtracted : (o : Ops) (laws : Lawful o) (t : List ℕ) (f : ℕ) (s : List ℕ) → Subtractable o.size t f s → length t ≡ 4 → Packet o.size (less_multiple o t f s)
subtracted o laws t f s fit long = record {
  long = length_less o laws t f s ∙ long;
  codes = λ i h. let l : i < length t = subst (λ (n : ℕ). i < n) (length_less o laws t f s) h in
      subst (λ (x : ℕ). x < o.size) (sym (get_or_less o laws t f s i l))
      (less_closed o laws t f s fit.factor_code fit.target_codes fit.source_codes fit.long i l);
}

-- the coefficient of a term, and its packet
coefficient_at : {P : Type 0} (ts : List (Term P)) (k : ℕ) (d : Term P) → k < length ts → get_or (coefficients ts) k 0 ≡ (get_or ts k d).coefficient
coefficient_at ts k d h = get_or-map (λ t. t.coefficient) ts k d 0 h

packet_at : {P : Type 0} (ts : List (Term P)) (k : ℕ) (d : Term P) (e : P) → k < length ts → get_or (packets ts) k e ≡ (get_or ts k d).packet
packet_at ts k d e h = get_or-map (λ t. t.packet) ts k d e h

module _ (o : Ops) (laws : Lawful o) where
  zero_code : 0 < o.size
  zero_code = le_trans (lit≤ tt) laws.size_least

  -- taking away a negative multiple of p adds the multiple
  add_one_term : (x c p : ℕ) → x < o.size → c < o.size → p < o.size → o.difference x (o.product (o.difference 0 c) p) ≡ o.sum x (o.product c p)
  add_one_term x c p hx hc hp = ap (λ e. e.0) (sub_negative (elements o laws) (x, hx) (c, hc) (p, hp))

  -- and so it adds a term to what is summed with the rest
  pub add_term : (x c p rest : ℕ) → x < o.size → c < o.size → p < o.size → rest < o.size
      → o.sum (o.difference x (o.product (o.difference 0 c) p)) rest ≡ o.sum x (o.sum (o.product c p) rest)
  add_term x c p rest hx hc hp hr =
      ap (λ y. o.sum y rest) (add_one_term x c p hx hc hp) ∙ laws.sum_assoc x (o.product c p) rest hx (laws.product_closed c p hc hp) hr

  -- a term is taken out of a sum
  pub take_term : (m x s : ℕ) → m < o.size → x < o.size → s < o.size → o.difference (o.sum m (o.sum x s)) x ≡ o.sum m s
  take_term m x s hm hx hs =
      let k = elements o laws in
      ap (λ e. e.0)
      (ap (λ e. k.sub e (x, hx)) (ap (k.add (m, hm)) (k.add_comm (x, hx) (s, hs)) ∙ sym (k.add_assoc (m, hm) (s, hs) (x, hx)))
      ∙ add_sub k (k.add (m, hm) (s, hs)) (x, hx))

  zero_sum : (x : ℕ) → x < o.size → o.sum 0 x ≡ x
  zero_sum x h = laws.sum_comm 0 x zero_code h ∙ laws.sum_zero x h

  pub divide : (c x : ℕ) → 0 < c → c < o.size → x < o.size → o.product (o.inverse c) (o.product c x) ≡ x
  divide c x p hc hx =
      let k = elements o laws in
      ap (λ i. o.product i (o.product c x)) (sym (inverse_code o laws c hc p)) ∙ ap (λ e. e.0) (inv_mul k (c, hc) (x, hx) (not_none o laws c hc p))

  module _ (t : List ℕ) (f : ℕ) (s : List ℕ) where
    -- what is left where a negative multiple is taken away is the row with the multiple added
    pub add_done : (n : ℕ) (r : Result (Unit {0}) RowsFault) (new : List ℕ)
        → Ok n ≡ difference_answer o 0 f → r ≡ subtract_answer o.size t n s → new ≡ subtract_after o t n s r → Added o t f s r new
    unfolding less_multiple
    add_done n r new answered answer after fit = (ok, after ∙ ap (subtract_after o t n s) ok ∙ sums)
      where
        e : n ≡ o.difference 0 f
        e = answered_two o.size o.difference 0 f n zero_code fit.factor_code answered

        negative_fit : Subtractable o.size t n s
        negative_fit = record {
          long = fit.long;
          target_codes = fit.target_codes;
          source_codes = fit.source_codes;
          factor_code = rw e (laws.difference_closed 0 f zero_code fit.factor_code);
        }

        ok : r ≡ Ok tt
        ok = answer ∙ fit_accepted o.size t n s negative_fit

        sums : less_multiple o t n s ≡ plus_multiple o t f s
        sums = same_map (less_at o t n s) (λ j. o.sum (get_or t j 0) (o.product f (get_or s j 0))) (length t)
            (λ j l. ap (λ y. o.difference (get_or t j 0) (o.product y (get_or s j 0))) e
            ∙ add_one_term (get_or t j 0) f (get_or s j 0) (fit.target_codes j l) fit.factor_code (fit.source_codes j (subst (λ (m : ℕ). j < m) (sym fit.long) l)))

    at_plus : (j : ℕ) → j < length t → get_or (plus_multiple o t f s) j 0 ≡ o.sum (get_or t j 0) (o.product f (get_or s j 0))
    at_plus j l = get_or-map-range_with_len (λ i. o.sum (get_or t i 0) (o.product f (get_or s i 0))) 0 (length t) j j 0 l (omega arith)

    length_plus : length (plus_multiple o t f s) ≡ length t
    length_plus = length-map-range_with_len (λ i. o.sum (get_or t i 0) (o.product f (get_or s i 0))) 0 (length t)

    -- a packet with a multiple added is a packet
    plus_packet : Subtractable o.size t f s → length t ≡ 4 → Packet o.size (plus_multiple o t f s)
    plus_packet fit long = record {
      long = length_plus ∙ long;
      codes = λ i h. let l : i < length t = subst (λ (n : ℕ). i < n) length_plus h in
          rw (at_plus i l) (laws.sum_closed _ _ (fit.target_codes i l)
          (laws.product_closed _ _ fit.factor_code (fit.source_codes i (subst (λ (m : ℕ). i < m) (sym fit.long) l))));
    }

  coded_closed : (cs : List ℕ) (ps : List (List ℕ)) (j : ℕ) → Codes o.size cs → ((k : ℕ) → k < length ps → get_or (get_or ps k []) j 0 < o.size)
      → coded_at o cs ps j < o.size
  unfolding coded_at
  coded_closed [] ps j hc hp = zero_code
  coded_closed (c ∷ cs) [] j hc hp = zero_code
  coded_closed (c ∷ cs) (p ∷ ps) j hc hp =
      laws.sum_closed _ _ (laws.product_closed _ _ (hc 0 (omega arith)) (hp 0 (omega arith)))
      (coded_closed cs ps j (λ i h. hc (suc i) (omega arith)) (λ i h. hp (suc i) (omega arith)))

  module _ (cs : List ℕ) (ps : List (List ℕ)) (ok : Sendable o.size cs ps) where
    -- a symbol of a packet is a code
    symbol_code : (k j : ℕ) → k < length ps → j < 4 → get_or (get_or ps k []) j 0 < o.size
    symbol_code k j h l = (ok.packets k h).codes j (subst (λ (n : ℕ). j < n) (sym (ok.packets k h).long) l)

    -- what is to come after the first k terms
    abbrev pub to_come : ℕ → ℕ → ℕ
    to_come k j = coded_at o (drop k cs) (drop k ps) j

    pub to_come_code : (k j : ℕ) → j < 4 → to_come k j < o.size
    to_come_code k j l =
        coded_closed (drop k cs) (drop k ps) j
        (λ i h. rw (get_or-drop k cs i 0) (ok.coefficients (k + i) (omega (arith, rw (length-drop k cs) at h))))
        (λ i h. rw (get_or-drop k ps i []) (symbol_code (k + i) j (omega (arith, rw (length-drop k ps) at h)) l))

    pub to_come_more : (k j : ℕ) → k < length ps → to_come k j ≡ o.sum (o.product (get_or cs k 0) (get_or (get_or ps k []) j 0)) (to_come (k + 1) j)
    unfolding coded_at
    to_come_more k j h =
        ap₂ (λ xs ys. coded_at o xs ys j) (drop_more cs k 0 (omega (arith, ok.as_many))) (drop_more ps k [] h)

    pub to_come_end : (k j : ℕ) → length ps ≤ k → to_come k j ≡ 0
    unfolding coded_at
    to_come_end k j h = ap (λ xs. coded_at o xs (drop k ps) j) (drop_all k cs (omega (arith, ok.as_many)))

    -- the first k terms are in the sum
    pub record Adding (k : ℕ) (t : List ℕ) : Type 0 where
      pub packet : Packet o.size t
      pub total : (j : ℕ) → j < 4 → o.sum (get_or t j 0) (to_come k j) ≡ coded_at o cs ps j

    pub adding_none : Adding 0 blank
    adding_none = record {
      packet = record { long = refl; codes = λ i h. rw (zeros i) zero_code };
      total = λ j h. ap (λ x. o.sum x (to_come 0 j)) (zeros j) ∙ laws.sum_comm 0 (to_come 0 j) zero_code (to_come_code 0 j h) ∙ laws.sum_zero (to_come 0 j) (to_come_code 0 j h);
    }

    pub adding_fit : (k : ℕ) (t : List ℕ) → k < length ps → Adding k t → Subtractable o.size t (get_or cs k 0) (get_or ps k [])
    adding_fit k t h a = record {
      long = (ok.packets k h).long ∙ sym a.packet.long;
      target_codes = a.packet.codes;
      source_codes = (ok.packets k h).codes;
      factor_code = ok.coefficients k (omega (arith, ok.as_many));
    }

    pub adding_more : (k : ℕ) (t : List ℕ) → k < length ps → Adding k t → Adding (k + 1) (plus_multiple o t (get_or cs k 0) (get_or ps k []))
    adding_more k t h a = record {
      packet = plus_packet t (get_or cs k 0) (get_or ps k []) (adding_fit k t h a) a.packet.long;
      total = λ j l.
          let within : j < length t = subst (λ (n : ℕ). j < n) (sym a.packet.long) l in
          ap (λ x. o.sum x (to_come (k + 1) j)) (at_plus t (get_or cs k 0) (get_or ps k []) j within)
          ∙ laws.sum_assoc (get_or t j 0) (o.product (get_or cs k 0) (get_or (get_or ps k []) j 0)) (to_come (k + 1) j)
          (a.packet.codes j within) (laws.product_closed _ _ (ok.coefficients k (omega (arith, ok.as_many))) (symbol_code k j h l)) (to_come_code (k + 1) j l)
          ∙ ap (o.sum (get_or t j 0)) (sym (to_come_more k j h)) ∙ a.total j l;
    }

    pub adding_all : (k : ℕ) (t : List ℕ) → length ps ≤ k → Adding k t → t ≡ coded_row o cs ps
    adding_all k t h a =
        fill_by_all (coded_at o cs ps) t 4 0 a.packet.long
        (λ j l. sym (laws.sum_zero (get_or t j 0) (a.packet.codes j (subst (λ (n : ℕ). j < n) (sym a.packet.long) l)))
        ∙ ap (o.sum (get_or t j 0)) (sym (to_come_end k j h)) ∙ a.total j l)

    module _ (l : ℕ) (received : List (Option (List ℕ))) (coded : List ℕ) (here : Arrived o cs ps l received coded) where
      abbrev lost_symbol : ℕ → ℕ
      lost_symbol j = get_or (get_or ps l []) j 0

      lost_code : (j : ℕ) → j < 4 → lost_symbol j < o.size
      lost_code j h = symbol_code l j here.within h

      -- of the first k packets those that arrived are taken out; of the lost one its coefficient is known once it is passed
      pub record Taking (k c : ℕ) (rest : List ℕ) : Type 0 where
        pub packet : Packet o.size rest
        pub left : (j : ℕ) → j < 4 → get_or rest j 0 ≡ o.sum (o.product c (lost_symbol j)) (to_come k j)
        pub before : k ≤ l → c ≡ 0
        pub after : l < k → c ≡ get_or cs l 0

      no_multiple : (x : ℕ) → x < o.size → o.product 0 x ≡ 0
      no_multiple x h =
          let k = elements o laws in
          ap (λ e. e.0) (k.mul_comm k.zero (x, h) ∙ mul-zero k (x, h))

      long_coded : length coded ≡ 4
      long_coded = ap length here.sum ∙ length-map-range_with_len (coded_at o cs ps) 0 4

      at_coded : (j : ℕ) → j < 4 → get_or coded j 0 ≡ to_come 0 j
      at_coded j h = ap (λ row. get_or row j 0) here.sum ∙ get_or-map-range_with_len (coded_at o cs ps) 0 4 j j 0 h (omega arith)

      pub taking_none : Taking 0 0 coded
      taking_none = record {
        packet = record {
          long = long_coded;
          codes = λ i h. let four : i < 4 = subst (λ (n : ℕ). i < n) long_coded h in rw (at_coded i four) (to_come_code 0 i four);
        };
        left = λ j h. at_coded j h
            ∙ sym (ap (λ x. o.sum x (to_come 0 j)) (no_multiple (lost_symbol j) (lost_code j h)) ∙ zero_sum (to_come 0 j) (to_come_code 0 j h));
        before = λ _. refl;
        after = λ h. absurd (not-suc-le-zero h);
      }

      module _ (k c : ℕ) (rest : List ℕ) (t : Taking k c rest) where
        c_code : c < o.size
        c_code =
            elim (cases_lt l k) [
              | inl h ↦ rw (t.after h) (ok.coefficients l (omega (arith, ok.as_many, here.within)))
              | inr h ↦ rw (t.before h) zero_code
            ]

        within_rest : (j : ℕ) → j < 4 → j < length rest
        within_rest j h = subst (λ (n : ℕ). j < n) (sym t.packet.long) h

        pub taking_fit : k < length ps → Subtractable o.size rest (get_or cs k 0) (get_or ps k [])
        taking_fit h = record {
          long = (ok.packets k h).long ∙ sym t.packet.long;
          target_codes = t.packet.codes;
          source_codes = (ok.packets k h).codes;
          factor_code = ok.coefficients k (omega (arith, ok.as_many));
        }

        -- a packet that arrived is taken out
        pub taking_some : k < length ps → (k ≡ l → ⊥) → Taking (k + 1) c (less_multiple o rest (get_or cs k 0) (get_or ps k []))
        taking_some h ne = record {
          packet = subtracted o laws rest (get_or cs k 0) (get_or ps k []) (taking_fit h) t.packet.long;
          left = λ j m.
              get_or_less o laws rest (get_or cs k 0) (get_or ps k []) j (within_rest j m)
              ∙ ap (λ x. o.difference x (o.product (get_or cs k 0) (get_or (get_or ps k []) j 0))) (t.left j m ∙ ap (o.sum (o.product c (lost_symbol j))) (to_come_more k j h))
              ∙ take_term (o.product c (lost_symbol j)) (o.product (get_or cs k 0) (get_or (get_or ps k []) j 0)) (to_come (k + 1) j)
              (laws.product_closed c (lost_symbol j) c_code (lost_code j m))
              (laws.product_closed (get_or cs k 0) (get_or (get_or ps k []) j 0) (ok.coefficients k (omega (arith, ok.as_many))) (symbol_code k j h m))
              (to_come_code (k + 1) j m);
          before = λ b. t.before (omega arith);
          after = λ b. t.after (omega (arith, ne));
        }

        -- the lost packet is what is left over
        pub taking_lost : k ≡ l → Taking (k + 1) (get_or cs k 0) rest
        taking_lost e = record {
          packet = t.packet;
          left = λ j m.
              t.left j m
              ∙ ap₂ (λ x y. o.sum x y) (ap (λ x. o.product x (lost_symbol j)) (t.before (omega arith)) ∙ no_multiple (lost_symbol j) (lost_code j m)) (to_come_more k j within_k)
              ∙ zero_sum _ (laws.sum_closed _ _ (laws.product_closed _ _ (ok.coefficients k (omega (arith, ok.as_many, within_k))) (symbol_code k j within_k m)) (to_come_code (k + 1) j m))
              ∙ ap (λ i. o.sum (o.product (get_or cs k 0) (get_or (get_or ps i []) j 0)) (to_come (k + 1) j)) e;
          before = λ b. absurd (omega arith);
          after = λ _. ap (λ i. get_or cs i 0) e;
        }
          where
            within_k : k < length ps
            within_k = subst (λ (i : ℕ). i < length ps) (sym e) here.within

        -- at the end, the rest divided by the coefficient is the lost packet
        pub taking_all : length ps ≤ k → (c ≡ get_or cs l 0) × (multiple o (o.inverse c) rest ≡ get_or ps l [])
        taking_all h = (here_c, sym (fill_by_all (λ j. o.product (o.inverse c) (get_or rest j 0)) (get_or ps l []) 4 0 (ok.packets l here.within).long each))
          where
            here_c : c ≡ get_or cs l 0
            here_c = t.after (omega (arith, here.within))

            positive : 0 < c
            positive = rw here_c here.takes_part

            each : (j : ℕ) → j < 4 → lost_symbol j ≡ o.product (o.inverse c) (get_or rest j 0)
            each j m =
                sym (ap (o.product (o.inverse c)) (t.left j m ∙ ap (o.sum (o.product c (lost_symbol j))) (to_come_end k j h)
                ∙ laws.sum_zero _ (laws.product_closed c (lost_symbol j) c_code (lost_code j m)))
                ∙ divide c (lost_symbol j) positive c_code (lost_code j m))

      -- what arrived: at the lost place nothing, at every other the packet as sent
      at_lost : (d : Option (List ℕ)) → get_or received l d ≡ None
      at_lost d = ap (λ xs. get_or xs l d) here.others ∙ get_or-set_same (map Some ps) l None d (subst (λ (n : ℕ). l < n) (sym (length-map ps Some)) here.within)

      at_other : (k : ℕ) (d : Option (List ℕ)) → k < length ps → (k ≡ l → ⊥) → get_or received k d ≡ Some (get_or ps k [])
      at_other k d h ne = ap (λ xs. get_or xs k d) here.others ∙ get_or-set_other (map Some ps) l k None d ne ∙ get_or-map Some ps k [] d h

      pub arrived_some : (k : ℕ) (d : Option (List ℕ)) (p : List ℕ) → k < length ps → get_or received k d ≡ Some p → (k ≡ l → ⊥) × (p ≡ get_or ps k [])
      arrived_some k d p h e = (not_lost, same)
        where
          not_lost : k ≡ l → ⊥
          not_lost z =
              let lost = at_lost d in
              let there : get_or received l d ≡ Some p = rw z at e in
              let no_way : ◌≡◌ {A = ℕ} 0 1 = cc in
              absurd (omega arith)

          same : p ≡ get_or ps k []
          same = let other = at_other k d h not_lost in cc

      pub arrived_none : (k : ℕ) (d : Option (List ℕ)) → k < length ps → get_or received k d ≡ None → k ≡ l
      arrived_none k d h e = elim (cases_eq k l) [ inl z ↦ z | inr ne ↦ absurd (apart ne) ]
        where
          apart : (k ≡ l → ⊥) → ⊥
          apart ne =
              let other = at_other k d h ne in
              let no_way : ◌≡◌ {A = ℕ} 0 1 = cc in
              omega arith

      pub as_sent : length received ≡ length ps
      as_sent = ap length here.others ∙ length-set (map Some ps) l None ∙ length-map ps Some

      module _ (k c : ℕ) (rest : List ℕ) (t : Taking k c rest) (h : k < length ps) where
        -- a packet that arrived fits, and is taken out
        pub some_fit : (p : List ℕ) → get_or received k None ≡ Some p → Subtractable o.size rest (get_or cs k 0) p
        some_fit p e = subst (Subtractable o.size rest (get_or cs k 0)) (sym (arrived_some k None p h e).1) (taking_fit k c rest t h)

        pub some_turn : (p rest' : List ℕ) → get_or received k None ≡ Some p → rest' ≡ less_multiple o rest (get_or cs k 0) p → Taking (k + 1) c rest'
        some_turn p rest' e after =
            subst (Taking (k + 1) c) (sym (after ∙ ap (less_multiple o rest (get_or cs k 0)) (arrived_some k None p h e).1)) (taking_some k c rest t h (arrived_some k None p h e).0)

        pub none_turn : get_or received k None ≡ None → Taking (k + 1) (get_or cs k 0) rest
        none_turn e = taking_lost k c rest t (arrived_none k None h e)

      module _ (k c : ℕ) (rest : List ℕ) (t : Taking k c rest) (h : length ps ≤ k) where
        -- at the end the coefficient has an inverse
        pub inverse_there : inverse_answer o c ≡ Ok (o.inverse c)
        inverse_there = accepts_inverse o c (rw (taking_all k c rest t h).0 here.takes_part) (c_code k c rest t)

        -- by which the rest is divided
        pub divided : (i : ℕ) (r : Result (List ℕ) RowsFault) → Ok i ≡ inverse_answer o c → Scaled o i rest r → r ≡ Ok (get_or ps l [])
        divided i r e by =
            let there = inverse_there in
            let same : i ≡ o.inverse c = cc in
            by (rw same (laws.inverse_closed c (rw (taking_all k c rest t h).0 here.takes_part) (c_code k c rest t))) t.packet
            ∙ ap Ok (ap (λ x. multiple o x rest) same ∙ (taking_all k c rest t h).1)

  -- the same of terms: a turn that adds one
  module _ (terms : List (Term (List ℕ))) (ok : Sendable o.size (coefficients terms) (packets terms)) where
    abbrev pub AddingTerms : ℕ → List ℕ → Type 0
    AddingTerms k t = Adding (coefficients terms) (packets terms) ok k t

    pub terms_none : AddingTerms 0 blank
    terms_none = adding_none (coefficients terms) (packets terms) ok

    module _ (k : ℕ) (t : List ℕ) (a : AddingTerms k t) where
      pub terms_all : length terms ≤ k → t ≡ coded_row o (coefficients terms) (packets terms)
      terms_all h = adding_all (coefficients terms) (packets terms) ok k t (rw (length-map terms (λ x. x.packet)) h) a

      module _ (d : Term (List ℕ)) (h : k < length terms) where
        within_packets : k < length (packets terms)
        within_packets = rw (length-map terms (λ x. x.packet)) h

        pub term_turn : (r : Result (Unit {0}) RowsFault) (new : List ℕ) → Added o t (get_or terms k d).coefficient (get_or terms k d).packet r new
            → (r ≡ Ok tt) × AddingTerms (k + 1) new
        term_turn r new added = (there.0, subst (AddingTerms (k + 1)) (sym there.1) (adding_more (coefficients terms) (packets terms) ok k t within_packets a))
          where
            there : (r ≡ Ok tt) × (new ≡ plus_multiple o t (get_or (coefficients terms) k 0) (get_or (packets terms) k []))
            there =
                subst₂ (λ c p. Added o t c p r new) (sym (coefficient_at terms k d h)) (sym (packet_at terms k d [] h)) added
                (adding_fit (coefficients terms) (packets terms) ok k t within_packets a)

  -- and the turns that take out what arrived
  module _ (received : List (Term (Option (List ℕ)))) (coded : List ℕ) (sent : List (List ℕ)) (l : ℕ)
      (here : Arrived o (coefficients received) sent l (packets received) coded) where
    abbrev cs : List ℕ
    cs = coefficients received

    abbrev came : List (Option (List ℕ))
    came = packets received

    abbrev pub TakingTerms : ℕ → ℕ → List ℕ → Type 0
    TakingTerms k c rest = Taking cs sent here.sendable l came coded here k c rest

    pub terms_whole : TakingTerms 0 0 coded
    terms_whole = taking_none cs sent here.sendable l came coded here

    as_received : length received ≡ length sent
    as_received = sym (length-map received (λ x. x.packet)) ∙ as_sent cs sent here.sendable l came coded here

    module _ (k c : ℕ) (rest : List ℕ) (t : TakingTerms k c rest) where
      module _ (d : Term (Option (List ℕ))) (h : k < length received) where
        within_sent : k < length sent
        within_sent = subst (λ (n : ℕ). k < n) as_received h

        pub came_fit : (p : List ℕ) → (get_or received k d).packet ≡ Some p → Subtractable o.size rest (get_or received k d).coefficient p
        came_fit p e =
            subst (λ x. Subtractable o.size rest x p) (coefficient_at received k d h)
            (some_fit cs sent here.sendable l came coded here k c rest t within_sent p (packet_at received k d None h ∙ e))

        pub came_turn : (p new : List ℕ) → (get_or received k d).packet ≡ Some p → new ≡ less_multiple o rest (get_or received k d).coefficient p
            → TakingTerms (k + 1) c new
        came_turn p new e after =
            some_turn cs sent here.sendable l came coded here k c rest t within_sent p new (packet_at received k d None h ∙ e)
            (after ∙ ap (λ x. less_multiple o rest x p) (sym (coefficient_at received k d h)))

        pub lost_turn : (get_or received k d).packet ≡ None → TakingTerms (k + 1) (get_or received k d).coefficient rest
        lost_turn e =
            subst (λ x. TakingTerms (k + 1) x rest) (coefficient_at received k d h)
            (none_turn cs sent here.sendable l came coded here k c rest t within_sent (packet_at received k d None h ∙ e))

      module _ (h : length received ≤ k) where
        pub end_inverse : inverse_answer o c ≡ Ok (o.inverse c)
        end_inverse = inverse_there cs sent here.sendable l came coded here k c rest t (subst (λ (n : ℕ). n ≤ k) as_received h)

        pub end_divided : (i : ℕ) (r : Result (List ℕ) RowsFault) → Ok i ≡ inverse_answer o c → Scaled o i rest r → r ≡ Ok (get_or sent l [])
        end_divided = divided cs sent here.sendable l came coded here k c rest t (subst (λ (n : ℕ). n ≤ k) as_received h)
