-- Contents that agree with frames, and packets that are determined by them. Assumes nothing.
use Rattle.std.proofs.Common.{◌≡◌, ℕ, ◌+◌, ◌<◌, cond, eqb, List, sym, refl, ap, ◌∙◌, ap₂}
use Rattle.std.proofs.lemmas.Bool.{eq-eqb, ne_eqb, cond-true, cond-false}
use Rattle.field.proofs.Arithmetic.{Arithmetic, zero-add, zero-mul, mul-zero, one-mul, add-mul, sub_self, sub_zero_same, add_cancel, mul_sub}
use Rattle.algebra.proofs.Sums.{summed, summed_same, summed_none, summed_add, summed_sub, summed_mul, summed_at}
use Rattle.algebra.proofs.Vectors.{Vector, Linear, All, Span, span_each, span_least, all_weaker}
use Rattle.algebra.proofs.Tables.{Table, Reduced, image, Fixed, row_fixed}
use Rattle.algebra.proofs.Insertion.{Stands}

module _ {F : Type 0} (k : Arithmetic F) (n l : ℕ) where
  -- contents p: packet m has the symbol p m j at place j
  abbrev pub Contents : Type 0
  Contents = ℕ → ℕ → F

  -- each symbol of the frame is the sum of the coefficients times the packets' symbols at that place
  unfoldable pub Agrees : Contents → Vector F → Type 0
  Agrees p v = (j : ℕ) → j < l → v (n + j) ≡ summed k n (λ m. k.mul (v m) (p m j))

  pub agrees_linear : (p : Contents) → Linear k (Agrees p)
  unfolding Agrees
  agrees_linear p = record {
    none = λ j h. sym (summed_none k n (λ m. k.mul k.zero (p m j)) (λ m _. zero-mul k (p m j)));
    plus = λ v w a b j h.
        ap₂ k.add (a j h) (b j h) ∙ sym (summed_add k n (λ m. k.mul (v m) (p m j)) (λ m. k.mul (w m) (p m j)))
        ∙ summed_same k n (λ m. k.add (k.mul (v m) (p m j)) (k.mul (w m) (p m j))) (λ m. k.mul (k.add (v m) (w m)) (p m j)) (λ m _. sym (add-mul k (v m) (w m) (p m j)));
    times = λ c v a j h.
        ap (k.mul c) (a j h) ∙ sym (summed_mul k n c (λ m. k.mul (v m) (p m j)))
        ∙ summed_same k n (λ m. k.mul c (k.mul (v m) (p m j))) (λ m. k.mul (k.mul c (v m)) (p m j)) (λ m _. sym (k.mul_assoc c (v m) (p m j)));
  }

  -- contents that agree with the frames agree with all that the rows span
  pub agrees_span : (t : Table F) (fs : List (Vector F)) → Stands k n t fs → (p : Contents) → All k (Agrees p) fs → (v : Vector F) → Fixed k n t v → Agrees p v
  agrees_span t fs s p all v fixed = span_least k (Agrees p) (agrees_linear p) fs all v (s.down v fixed)

  pub agrees_frames : (t : Table F) (fs : List (Vector F)) → Stands k n t fs → (p : Contents) → ((v : Vector F) → Fixed k n t v → Agrees p v) → All k (Agrees p) fs
  agrees_frames t fs s p all = all_weaker k (Span k fs) (Agrees p) (λ v h. all v (s.up v h)) fs (span_each k fs)

  -- the symbols of the rows, as contents: they agree with all that the rows span
  abbrev pub own : Table F → Contents
  own t m j = t m (n + j)

  pub own_agrees : (t : Table F) (v : Vector F) → Fixed k n t v → Agrees (own t) v
  unfolding Fixed image Agrees
  own_agrees t v fixed j h = fixed (n + j)

  -- packet a is the same in all contents that agree with the frames
  unfoldable pub Determined : List (Vector F) → ℕ → Type 0
  Determined fs a = (p q : Contents) → All k (Agrees p) fs → All k (Agrees q) fs → (j : ℕ) → j < l → p a j ≡ q a j

  -- a row with no coefficient but its lead gives its packet
  pub bare_packet : (t : Table F) → Reduced k n t → (a : ℕ) → a < n → t a a ≡ k.one → ((m : ℕ) → m < n → (m ≡ a → ⊥) → t a m ≡ k.zero)
      → (p : Contents) → Agrees p (t a) → (j : ℕ) → j < l → p a j ≡ t a (n + j)
  unfolding Agrees
  bare_packet t r a h e bare p agrees j hj =
      sym (agrees j hj ∙ summed_at k n a (λ m. k.mul (t a m) (p m j)) h (λ m hm ne. ap (λ x. k.mul x (p m j)) (bare m hm ne) ∙ zero-mul k (p m j))
      ∙ ap (λ x. k.mul x (p a j)) e ∙ one-mul k (p a j))

  -- 1 at b, 0 elsewhere
  abbrev pub unit : ℕ → ℕ → F
  unit b m = cond (eqb m b) k.one k.zero

  pub unit_same : (b : ℕ) → unit b b ≡ k.one
  unit_same b = cond-true (eqb b b) k.one k.zero (eq-eqb b b refl)

  pub unit_other : (b m : ℕ) → (m ≡ b → ⊥) → unit b m ≡ k.zero
  unit_other b m ne = cond-false (eqb m b) k.one k.zero (ne_eqb m b ne)

  -- the unit vector at b less column b: every vector of the rows' span vanishes on it
  abbrev kernel : Table F → ℕ → ℕ → F
  kernel t b m = k.sub (unit b m) (t m b)

  kernel_none : (t : Table F) (b : ℕ) → b < n → (v : Vector F) → Fixed k n t v → summed k n (λ m. k.mul (v m) (kernel t b m)) ≡ k.zero
  unfolding Fixed image
  kernel_none t b h v fixed =
      summed_same k n (λ m. k.mul (v m) (kernel t b m)) (λ m. k.sub (k.mul (v m) (unit b m)) (k.mul (v m) (t m b))) (λ m _. mul_sub k (v m) (unit b m) (t m b))
      ∙ summed_sub k n (λ m. k.mul (v m) (unit b m)) (λ m. k.mul (v m) (t m b))
      ∙ ap₂ k.sub (summed_at k n b (λ m. k.mul (v m) (unit b m)) h (λ m _ ne. ap (k.mul (v m)) (unit_other b m ne) ∙ mul-zero k (v m)) ∙ ap (k.mul (v b)) (unit_same b) ∙ k.mul-one (v b)) (sym (fixed b))
      ∙ sub_self k (v b)

  shifted_agrees : (t : Table F) (b : ℕ) → b < n → (v : Vector F) → Fixed k n t v → Agrees (λ m j. k.add (own t m j) (kernel t b m)) v
  unfolding Agrees
  shifted_agrees t b h v fixed j hj =
      own_agrees t v fixed j hj
      ∙ sym (summed_same k n (λ m. k.mul (v m) (k.add (own t m j) (kernel t b m))) (λ m. k.add (k.mul (v m) (own t m j)) (k.mul (v m) (kernel t b m))) (λ m _. k.mul-add (v m) (own t m j) (kernel t b m))
      ∙ summed_add k n (λ m. k.mul (v m) (own t m j)) (λ m. k.mul (v m) (kernel t b m))
      ∙ ap (k.add (summed k n (λ m. k.mul (v m) (own t m j)))) (kernel_none t b h v fixed)
      ∙ k.add-zero (summed k n (λ m. k.mul (v m) (own t m j))))

  -- a determined packet's row is there, and has no other coefficient
  pub determined_unit : (t : Table F) (fs : List (Vector F)) → Stands k n t fs → 0 < l → (a : ℕ) → a < n → Determined fs a → (b : ℕ) → b < n → t a b ≡ unit b a
  unfolding Determined
  determined_unit t fs s some a h determined b hb =
      sym (sub_zero_same k (unit b a) (t a b)
      (sym (add_cancel k k.zero (kernel t b a) (own t a 0)
      (zero-add k (own t a 0)
      ∙ determined (own t) (λ m j. k.add (own t m j) (kernel t b m)) (agrees_frames t fs s (own t) (own_agrees t))
      (agrees_frames t fs s (λ m j. k.add (own t m j) (kernel t b m)) (shifted_agrees t b hb)) 0 some
      ∙ k.add_comm (own t a 0) (kernel t b a)))))

  pub bare_determined : (t : Table F) (fs : List (Vector F)) → Reduced k n t → Stands k n t fs → (a : ℕ) → a < n → ((b : ℕ) → b < n → t a b ≡ unit b a) → Determined fs a
  unfolding Determined
  bare_determined t fs r s a h units p q hp hq j hj = packet p hp ∙ sym (packet q hq)
    where
      packet : (x : Contents) → All k (Agrees x) fs → x a j ≡ t a (n + j)
      packet x hx =
          bare_packet t r a h (units a h ∙ unit_same a) (λ m hm ne. units m hm ∙ unit_other m a (λ z. ne (sym z))) x
          (agrees_span t fs s x hx (t a) (row_fixed k n t r a h)) j hj
