-- The least cost over whole numbers in a row.
-- Cite from a crate above by `use Rattle.unit_runs.proofs.Costs.{least_between-at_most}`.
use Rattle.std.proofs.Common.{◌≡◌, ℕ, zero, suc, ◌<◌, ⊎_elim, Bool, true, false, refl, sym, subst, ◌∙◌, arith, ℤ, pos, ◌+ℤ◌, ◌-ℤ◌, ◌≤ℤ◌, int_le, unsigned_abs, Option, Some, None}
use Rattle.std.proofs.lemmas.Bool.{cond-true, cond-false}
use Rattle.uc_model.proofs.Common.{linear, le_trans, pos_of_nonneg, below_or_last, int_le-true, le-int_le, abs_is}
use Rattle.dual_model.proofs.Optimum.{AtMost, lesser_left, lesser_right, lesser_one}
use Rattle.unit_runs.specs.CostThrough.{least_from, least_between}

-- ---- the least over n numbers
least_from-at_most : (low : ℤ) (n : ℕ) (f : ℤ → Option ℤ) (k : ℕ) (v : ℤ) → k < n → AtMost (f (low +ℤ pos k)) v → AtMost (least_from low n f) v
least_from-at_most low zero f k v l h = absurd (omega arith)
least_from-at_most low (suc n) f k v l h = ⊎_elim
    (λ (less : k < n). lesser_left (least_from low n f) (f (low +ℤ pos n)) v (least_from-at_most low n f k v less h))
    (λ (last : k ≡ n). lesser_right (least_from low n f) (f (low +ℤ pos n)) v (subst (λ i. AtMost (f (low +ℤ pos i)) v) last h))
    (below_or_last n k l)

-- a place at which f has this cost
pub record Reached (f : ℤ → Option ℤ) (low high v : ℤ) : Type 0 where
  pub at : ℤ
  pub from : low ≤ℤ at
  pub to : at ≤ℤ high
  pub is : f at ≡ Some v

least_from-reached : (low high : ℤ) (n : ℕ) (f : ℤ → Option ℤ) (v : ℤ) → (low +ℤ pos n) ≤ℤ (high +ℤ pos 1)
    → least_from low n f ≡ Some v → Reached f low high v
least_from-reached low high zero f v l e = cc
least_from-reached low high (suc n) f v l e = ⊎_elim
    (λ (earlier : least_from low n f ≡ Some v). least_from-reached low high n f v (omega (arith, linear)) earlier)
    (λ (here : f (low +ℤ pos n) ≡ Some v).
    record { at = low +ℤ pos n; from = omega (arith, linear); to = omega (arith, linear); is = here })
    (lesser_one (least_from low n f) (f (low +ℤ pos n)) v e)

-- ---- the least between two numbers: no cost there is lower, and it is one of them
pub least_between-at_most : (low high : ℤ) (f : ℤ → Option ℤ) (at v : ℤ) → low ≤ℤ at → at ≤ℤ high → AtMost (f at) v → AtMost (least_between low high f) v
least_between-at_most low high f at v from to h =
    subst (λ o. AtMost o v) (sym (cond-true (int_le low high) _ None (le-int_le low high (le_trans low at high from to)))) whole
  where
    place : (k : ℕ) × (at -ℤ low ≡ pos k)
    place = pos_of_nonneg (at -ℤ low) (omega (arith, linear))

    whole : AtMost (least_from low (suc (unsigned_abs (high -ℤ low))) f) v
    whole =
        let size = abs_is (high -ℤ low) (omega (arith, linear)) in
        let is = place.1 in
        let there : at ≡ low +ℤ pos place.0 = omega (arith, linear) in
        least_from-at_most low (suc (unsigned_abs (high -ℤ low))) f place.0 v (omega (arith, linear)) (subst (λ z. AtMost (f z) v) there h)

pub least_between-reached : (low high : ℤ) (f : ℤ → Option ℤ) (v : ℤ) → least_between low high f ≡ Some v → Reached f low high v
least_between-reached low high f v e = by_test (int_le low high) refl
  where
    by_test : (b : Bool) → int_le low high ≡ b → Reached f low high v
    by_test true t =
        let size = abs_is (high -ℤ low) (let some = int_le-true low high t in omega (arith, linear)) in
        least_from-reached low high (suc (unsigned_abs (high -ℤ low))) f v (omega (arith, linear)) (sym (cond-true (int_le low high) _ None t) ∙ e)
    by_test false t = absurd (let none : least_between low high f ≡ None = cond-false (int_le low high) _ None t in cc)
