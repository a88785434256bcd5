-- What follows from the laws of a field, over any type with operations that keep them. Assumes nothing.
use Rattle.std.proofs.Common.{◌≡◌, sym, ap, ◌∙◌}

-- a field with its laws, which hold of all its elements
pub record Arithmetic (F : Type 0) : Type 0 where
  pub zero : F
  pub one : F
  pub add : F → F → F
  pub sub : F → F → F
  pub mul : F → F → F
  pub inv : F → F
  pub add_assoc : (a b c : F) → add (add a b) c ≡ add a (add b c)
  pub add_comm : (a b : F) → add a b ≡ add b a
  pub add-zero : (a : F) → add a zero ≡ a
  pub mul_assoc : (a b c : F) → mul (mul a b) c ≡ mul a (mul b c)
  pub mul_comm : (a b : F) → mul a b ≡ mul b a
  pub mul-one : (a : F) → mul a one ≡ a
  pub mul-add : (a b c : F) → mul a (add b c) ≡ add (mul a b) (mul a c)
  pub sub_add : (a b : F) → add (sub a b) b ≡ a
  pub mul_inv : (a : F) → (a ≡ zero → ⊥) → mul a (inv a) ≡ one
  pub apart : one ≡ zero → ⊥

module _ {F : Type 0} (k : Arithmetic F) where
  open k use {zero, one, add, sub, mul, inv, add_assoc, add_comm, add-zero, mul_assoc, mul_comm, mul-one, mul-add, sub_add, mul_inv}

  pub zero-add : (a : F) → add zero a ≡ a
  zero-add a = add_comm zero a ∙ add-zero a

  -- a number and its negative
  pub add_negative : (a : F) → add a (sub zero a) ≡ zero
  add_negative a = add_comm a (sub zero a) ∙ sub_add zero a

  add_back : (a c : F) → add (add a c) (sub zero c) ≡ a
  add_back a c = add_assoc a c (sub zero c) ∙ ap (add a) (add_negative c) ∙ add-zero a

  pub add_cancel : (a b c : F) → add a c ≡ add b c → a ≡ b
  add_cancel a b c e = sym (add_back a c) ∙ ap (λ x. add x (sub zero c)) e ∙ add_back b c

  -- the difference is the one number that added to b gives a
  pub sub_unique : (a b d : F) → add d b ≡ a → d ≡ sub a b
  sub_unique a b d e = add_cancel d (sub a b) b (e ∙ sym (sub_add a b))

  pub add_sub : (a b : F) → sub (add a b) b ≡ a
  add_sub a b = add_cancel (sub (add a b) b) a b (sub_add (add a b) b)

  pub sub_self : (a : F) → sub a a ≡ zero
  sub_self a = sym (sub_unique a a zero (zero-add a))

  pub sub-zero : (a : F) → sub a zero ≡ a
  sub-zero a = sym (sub_unique a zero a (add-zero a))

  -- taking away twice is taking away the sum
  pub sub_sub : (a b c : F) → sub (sub a b) c ≡ sub a (add b c)
  sub_sub a b c =
      sub_unique a (add b c) (sub (sub a b) c)
      (ap (add (sub (sub a b) c)) (add_comm b c) ∙ sym (add_assoc (sub (sub a b) c) c b) ∙ ap (λ x. add x b) (sub_add (sub a b) c) ∙ sub_add a b)

  -- numbers whose difference is 0 are equal
  pub sub_zero_same : (a b : F) → sub a b ≡ zero → a ≡ b
  sub_zero_same a b e = sym (sub_add a b) ∙ ap (λ x. add x b) e ∙ zero-add b

  pub mul-zero : (a : F) → mul a zero ≡ zero
  mul-zero a =
      add_cancel (mul a zero) zero (mul a zero)
      (sym (mul-add a zero zero) ∙ ap (mul a) (add-zero zero) ∙ sym (zero-add (mul a zero)))

  pub zero-mul : (a : F) → mul zero a ≡ zero
  zero-mul a = mul_comm zero a ∙ mul-zero a

  pub one-mul : (a : F) → mul one a ≡ a
  one-mul a = mul_comm one a ∙ mul-one a

  pub add-mul : (a b c : F) → mul (add a b) c ≡ add (mul a c) (mul b c)
  add-mul a b c = mul_comm (add a b) c ∙ mul-add c a b ∙ ap (λ x. add x (mul c b)) (mul_comm c a) ∙ ap (add (mul a c)) (mul_comm c b)

  pub mul_sub : (a b c : F) → mul a (sub b c) ≡ sub (mul a b) (mul a c)
  mul_sub a b c = sub_unique (mul a b) (mul a c) (mul a (sub b c)) (sym (mul-add a (sub b c) c) ∙ ap (mul a) (sub_add b c))

  -- taking away a negative multiple adds the multiple
  pub sub_negative : (x c p : F) → sub x (mul (sub zero c) p) ≡ add x (mul c p)
  sub_negative x c p = sym (sub_unique x (mul (sub zero c) p) (add x (mul c p)) both)
    where
      gone : add (mul c p) (mul (sub zero c) p) ≡ zero
      gone = sym (add-mul c (sub zero c) p) ∙ ap (λ y. mul y p) (add_negative c) ∙ zero-mul p

      both : add (add x (mul c p)) (mul (sub zero c) p) ≡ x
      both = add_assoc x (mul c p) (mul (sub zero c) p) ∙ ap (add x) gone ∙ add-zero x

  pub negative_negative : (c : F) → sub zero (sub zero c) ≡ c
  negative_negative c = sym (sub_unique zero (sub zero c) c (add_negative c))

  -- taking away a multiple adds the negative one
  pub add_negative_multiple : (x c p : F) → add x (mul (sub zero c) p) ≡ sub x (mul c p)
  add_negative_multiple x c p = sym (sub_negative x (sub zero c) p) ∙ ap (λ d. sub x (mul d p)) (negative_negative c)

  pub inv_mul : (a x : F) → (a ≡ zero → ⊥) → mul (inv a) (mul a x) ≡ x
  inv_mul a x ne =
      sym (mul_assoc (inv a) a x) ∙ ap (λ y. mul y x) (mul_comm (inv a) a ∙ mul_inv a ne) ∙ one-mul x

  -- the inverse is the one number that gives 1 in a product with a
  pub inv_unique : (a b : F) → (a ≡ zero → ⊥) → mul a b ≡ one → b ≡ inv a
  inv_unique a b ne e = sym (inv_mul a b ne) ∙ ap (mul (inv a)) e ∙ mul-one (inv a)
