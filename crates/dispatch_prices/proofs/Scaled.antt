-- Numerators over two denominators of the same amounts: a over q is u over d.
-- Cite by `use Rattle.dispatch_prices.proofs.Scaled.{Same}`.
use Rattle.std.proofs.Common.{◌≡◌, ℕ, zero, suc, ◌<◌, sym, ◌∙◌, arith, ℤ, pos, ◌+ℤ◌, ◌-ℤ◌, ◌*ℤ◌, ◌≤ℤ◌, ◌<ℤ◌}
use Rattle.uc_model.specs.Prelude.{sum_below}
use Rattle.uc_model.proofs.Common.{linear, mul_left_comm, mul-add, mul-sub, mul-zero, mul-le-mul_left, le_from_mul, le_antisymm, le_of_eq}

pub record Same (d q a u : ℤ) : Type 0 where
  pub is : d *ℤ a ≡ q *ℤ u

module _ (d q : ℤ) where
  pub plus : (a b u v : ℤ) → Same d q a u → Same d q b v → Same d q (a +ℤ b) (u +ℤ v)
  plus a b u v first second =
      let one = first.is in
      let two = second.is in
      record { is = omega (arith, linear, mul-add d a b, mul-add q u v) }

  pub minus : (a b u v : ℤ) → Same d q a u → Same d q b v → Same d q (a -ℤ b) (u -ℤ v)
  minus a b u v first second =
      let one = first.is in
      let two = second.is in
      record { is = omega (arith, linear, mul-sub d a b, mul-sub q u v) }

  -- a number in watts
  pub whole : (c : ℤ) → Same d q (q *ℤ c) (d *ℤ c)
  whole c = record { is = mul_left_comm d q c }

  pub none : Same d q (pos 0) (pos 0)
  none = record { is = mul-zero d ∙ sym (mul-zero q) }

  pub sum : (n : ℕ) (a u : ℕ → ℤ) → ((k : ℕ) → k < n → Same d q (a k) (u k)) → Same d q (sum_below n a) (sum_below n u)
  sum zero a u each = none
  sum (suc n) a u each = plus (sum_below n a) (a n) (sum_below n u) (u n) (sum n a u (λ k h. each k (omega arith))) (each n (omega arith))

  pub at_most : (a b u v : ℤ) → pos 0 <ℤ d → pos 0 ≤ℤ q → Same d q a u → Same d q b v → u ≤ℤ v → a ≤ℤ b
  at_most a b u v some low first second less =
      let times = mul-le-mul_left q u v low less in
      let one = first.is in
      let two = second.is in
      le_from_mul d a b some (omega (arith, linear))

  pub equal : (a b u v : ℤ) → pos 0 <ℤ d → pos 0 ≤ℤ q → Same d q a u → Same d q b v → u ≡ v → a ≡ b
  equal a b u v some low first second e =
      le_antisymm a b (at_most a b u v some low first second (le_of_eq u v e)) (at_most b a v u some low second first (le_of_eq v u (sym e)))
