-- The term of a cell by that without reserve, at prices that are freed of it.
use Rattle.std.proofs.Common.{◌≡◌, ℕ, zero, suc, ◌<◌, ⊎_elim, sym, ap, subst, ◌∙◌, arith, FitsSigned, to_z, of_z, List, ℤ, pos, ◌+ℤ◌, ◌-ℤ◌, ◌*ℤ◌, ◌≤ℤ◌, ◌<ℤ◌, Option, None, slice_index_or, [], ◌∷◌}
use Rattle.std.specs.Int.{w64, w128}
use Rattle.std.proofs.lemmas.Int.{ints, to_z-of_z}
use Rattle.uc_model.specs.declared.instance.Point.{Point}
use Rattle.uc_model.proofs.Common.{linear, le_or_lt, mul_left_comm, mul-zero, zero-mul, mul-add, mul-sub, add-mul, mul-le-mul_right, mul-le-mul_turned}
use Rattle.dual_model.specs.Prelude.{IsTerm, weighted_output, weighted_cost, IsCellTerm}
use Rattle.period_term.specs.inside.Freed.{AreFreed}

-- the costs of weights, of cost `cost` and output `p`
more : (q h k cost p r a b cap output reserve : ℤ) → output ≡ a -ℤ reserve → reserve ≤ℤ b → reserve ≤ℤ pos 0 → pos 0 ≤ℤ r → (p +ℤ r) ≤ℤ (q *ℤ cap)
    → (q *ℤ h) ≤ℤ (k *ℤ cost +ℤ output *ℤ p +ℤ pos 0 *ℤ r)
    → (q *ℤ (h +ℤ reserve *ℤ cap)) ≤ℤ (k *ℤ cost +ℤ a *ℤ p +ℤ b *ℤ r)
more q h k cost p r a b cap output reserve is less low sign fits base =
    let e1 = mul-le-mul_right r reserve b sign less in
    let e2 = mul-le-mul_turned reserve (p +ℤ r) (q *ℤ cap) low fits in
    let e3 = mul-add reserve p r in
    let e4 : a *ℤ p ≡ output *ℤ p +ℤ reserve *ℤ p = ap (λ z. z *ℤ p) (omega (arith, linear)) ∙ add-mul output reserve p in
    let e5 = zero-mul r in
    let e6 = mul-add q h (reserve *ℤ cap) in
    let e7 = mul_left_comm q reserve cap in
    omega (arith, linear)

-- what bounds them with all the room as reserve, and with none
with_all : (q n k cost p r a b cap output reserve : ℤ) → output ≡ a -ℤ reserve → reserve ≡ b
    → (q *ℤ n) ≤ℤ (k *ℤ cost +ℤ a *ℤ p +ℤ b *ℤ (q *ℤ cap -ℤ p))
    → (q *ℤ (n -ℤ reserve *ℤ cap)) ≤ℤ (k *ℤ cost +ℤ output *ℤ p +ℤ pos 0 *ℤ r)
with_all q n k cost p r a b cap output reserve is same base =
    let e1 = mul-sub q n (reserve *ℤ cap) in
    let e2 = mul_left_comm q reserve cap in
    let e3 = mul-sub b (q *ℤ cap) p in
    let e4 : a *ℤ p ≡ output *ℤ p +ℤ reserve *ℤ p = ap (λ z. z *ℤ p) (omega (arith, linear)) ∙ add-mul output reserve p in
    let e5 = zero-mul r in
    let e6 = ap (λ z. z *ℤ p) same in
    let e7 = ap (λ z. z *ℤ (q *ℤ cap)) same in
    omega (arith, linear)

with_none : (q n k cost p r a b cap output reserve : ℤ) → output ≡ a -ℤ reserve → reserve ≡ pos 0
    → (q *ℤ n) ≤ℤ (k *ℤ cost +ℤ a *ℤ p +ℤ b *ℤ pos 0)
    → (q *ℤ (n -ℤ reserve *ℤ cap)) ≤ℤ (k *ℤ cost +ℤ output *ℤ p +ℤ pos 0 *ℤ r)
with_none q n k cost p r a b cap output reserve is none base =
    let e1 = mul-sub q n (reserve *ℤ cap) in
    let e2 = ap (λ z. q *ℤ (z *ℤ cap)) none ∙ ap (λ z. q *ℤ z) (zero-mul cap) ∙ mul-zero q in
    let e3 = mul-zero b in
    let e4 : a *ℤ p ≡ output *ℤ p = ap (λ z. z *ℤ p) (omega (arith, linear, none)) in
    let e5 = zero-mul r in
    omega (arith, linear)

pub freed_term : (points : List Point) (k a b cap output reserve h : ℤ) → AreFreed k a b k output reserve → IsTerm points k output (pos 0) cap h
    → IsTerm points k a b cap (h +ℤ reserve *ℤ cap)
freed_term points k a b cap output reserve h freed term = record {
  reachable = term.reachable;
  bound = record {
    below = λ q weight r total sign fits.
        more (pos q) h k (weighted_cost points weight) (weighted_output points weight) r a b cap output reserve output_is
        (subst (λ z. z ≤ℤ b) (sym freed.reserve_is) (grind (arith, ints))) (subst (λ z. z ≤ℤ pos 0) (sym freed.reserve_is) (grind (arith, ints))) sign fits
        (term.bound.below q weight r total sign fits);
  };
  greatest = λ n bound. omega (arith, linear, term.greatest (n -ℤ reserve *ℤ cap) (record { below = λ q weight r total sign fits. ⊎_elim (λ (low : b ≤ℤ pos 0). with_all (pos q) n k (weighted_cost points weight) (weighted_output points weight) r a b cap output reserve output_is (freed.reserve_is ∙ (grind (arith, ints))) (bound.below q weight (pos q *ℤ cap -ℤ weighted_output points weight) total (omega (arith, linear)) (omega (arith, linear)))) (λ (high : pos 0 <ℤ b). with_none (pos q) n k (weighted_cost points weight) (weighted_output points weight) r a b cap output reserve output_is (freed.reserve_is ∙ (grind (arith, ints))) (bound.below q weight (pos 0) total (omega (arith, linear)) (omega (arith, linear)))) (le_or_lt b (pos 0)) }));
}
  where
    output_is : output ≡ a -ℤ reserve
    output_is = freed.output_is ∙ ap (λ z. a -ℤ z) (sym freed.reserve_is)

-- prices that are freed of those that a call's bits say
pub freed_bits : (k a b scale output reserve : ℤ) → FitsSigned w64 k → FitsSigned w128 a → FitsSigned w128 b
    → AreFreed (to_z w64 (of_z w64 k)) (to_z w128 (of_z w128 a)) (to_z w128 (of_z w128 b)) scale output reserve → AreFreed k a b scale output reserve
freed_bits k a b scale output reserve hk ha hb freed = grind (arith, ints, to_z-of_z, hk, ha, hb, freed)

-- the term at freed prices, as the calls give it
pub of_freed : (points : List Point) (k a b cap scale output reserve : ℤ) (term : Option ℤ) → AreFreed k a b scale output reserve
    → ((x y : ℤ) → AreFreed scale x y scale output reserve → IsCellTerm points scale x y cap term) → IsCellTerm points k a b cap term
of_freed points k a b cap scale output reserve term freed each = grind (arith, ints, freed, each)

-- a fact of each of four caps and its term
pub each_of_four : (P : ℤ → Option ℤ → Type 0) (caps : List ℤ) (x y z w : Option ℤ)
    → P (slice_index_or caps 0 (pos 0)) x → P (slice_index_or caps 1 (pos 0)) y → P (slice_index_or caps 2 (pos 0)) z → P (slice_index_or caps 3 (pos 0)) w
    → (i : ℕ) → i < 4 → P (slice_index_or caps i (pos 0)) (slice_index_or (x ∷ y ∷ z ∷ w ∷ []) i None)
each_of_four P caps x y z w a b c d zero h = a
each_of_four P caps x y z w a b c d (suc zero) h = b
each_of_four P caps x y z w a b c d (suc (suc zero)) h = c
each_of_four P caps x y z w a b c d (suc (suc (suc zero))) h = d
each_of_four P caps x y z w a b c d (suc (suc (suc (suc i)))) h = absurd (omega arith)
