-- Sums and products that stand as a cap C where they are above it.
use Rattle.std.specs.Prelude.{◌≡◌, ℕ, zero, suc, ◌+◌, ◌*◌, ◌≤◌, min}
use Rattle.std.proofs.Common.{sym, ap, ◌∙◌, ⊎_elim, mul-add, mul_assoc, mul_comm, mul-zero, le-mul_of_pos_right, arith}
use Rattle.std.proofs.lemmas.Bool.{cases_lt}

module _ (C : ℕ) where
  pub add_capped : (a b : ℕ) → min (min a C + min b C) C ≡ min (a + b) C
  add_capped a b = omega arith

  -- a number above the cap, times something, is above the cap or nothing
  mul_above : (a b : ℕ) → C ≤ a → min (a * b) C ≡ min (C * b) C
  mul_above a zero high = ap (λ (n : ℕ). min n C) (mul-zero a ∙ sym (mul-zero C))
  mul_above a (suc b) high =
      let one = le-mul_of_pos_right {m = suc b} a (omega arith) in
      let two = le-mul_of_pos_right {m = suc b} C (omega arith) in
      omega arith

  pub mul_capped_left : (a b : ℕ) → min (min a C * b) C ≡ min (a * b) C
  mul_capped_left a b =
      ⊎_elim
      (λ low. let e : min a C ≡ a = omega arith in ap (λ (n : ℕ). min (n * b) C) e)
      (λ high. let e : min a C ≡ C = omega arith in ap (λ (n : ℕ). min (n * b) C) e ∙ sym (mul_above a b high))
      (cases_lt a C)

  pub mul_capped_right : (a b : ℕ) → min (a * min b C) C ≡ min (a * b) C
  mul_capped_right a b = ap (λ (n : ℕ). min n C) (mul_comm a (min b C)) ∙ mul_capped_left b a ∙ ap (λ (n : ℕ). min n C) (mul_comm b a)

  pub mul_capped_assoc : (a b c : ℕ) → min (min (a * b) C * c) C ≡ min (a * min (b * c) C) C
  mul_capped_assoc a b c = mul_capped_left (a * b) c ∙ ap (λ (n : ℕ). min n C) (mul_assoc a b c) ∙ sym (mul_capped_right a (b * c))

  pub mul_capped_add : (a b c : ℕ) → min (a * min (b + c) C) C ≡ min (min (a * b) C + min (a * c) C) C
  mul_capped_add a b c = mul_capped_right a (b + c) ∙ ap (λ (n : ℕ). min n C) (mul-add a b c) ∙ sym (add_capped (a * b) (a * c))

  -- the lesser of two numbers, under the cap

  min_capped_left : (a b : ℕ) → min (min (min a C) b) C ≡ min (min a b) C
  min_capped_left a b = omega arith

  min_capped_right : (a b : ℕ) → min (min a (min b C)) C ≡ min (min a b) C
  min_capped_right a b = omega arith

  pub min_capped_assoc : (a b c : ℕ) → min (min (min (min a b) C) c) C ≡ min (min a (min (min b c) C)) C
  min_capped_assoc a b c =
      let assoc : min (min a b) c ≡ min a (min b c) = omega arith in
      min_capped_left (min a b) c ∙ ap (λ (n : ℕ). min n C) assoc ∙ sym (min_capped_right a (min b c))

  pub add_capped_min : (a b c : ℕ) → min (a + min (min b c) C) C ≡ min (min (min (a + b) C) (min (a + c) C)) C
  add_capped_min a b c =
      let drop : min (a + min (min b c) C) C ≡ min (a + min b c) C = omega arith in
      let split : a + min b c ≡ min (a + b) (a + c) = omega arith in
      drop ∙ ap (λ (n : ℕ). min n C) split ∙ sym (min_capped_left (a + b) (min (a + c) C) ∙ min_capped_right (a + b) (a + c))
