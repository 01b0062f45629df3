-- The numbers as their bits say them, and the cases of what is saved.
use Rattle.std.proofs.Common.{◌≡◌, ℕ, ◌∙◌, refl, sym, subst, arith, lit<, ◌*◌, ◌≤◌, ◌^◌, true, false, ℤ, pos, negsuc, ◌-ℤ◌, ◌*ℤ◌, ◌≤ℤ◌, FitsSigned, to_z, of_z, unsigned_abs}
use lib.Signed.{lt_z}
use Rattle.std.specs.Int.{w64, int_min}
use Rattle.std.proofs.lemmas.Int.{ints, clamps, fits_signed_from_abs, fits_signed_mul}
use Rattle.uc_model.proofs.Common.{abs_mul, from-size, narrow}
use Rattle.uc_model.specs.declared.limits.TheConstants.{MAX_PENALTY}
use Rattle.dual_model.specs.declared.limits.TheConstants.{MAX_PRICE}
use Rattle.system_value.proofs.Elements.{scale-size}
use Rattle.system_value.proofs.demand.saved.Goals as goal

-- a scale times a price
cost-is : (k from : ℤ) (price : ℕ) → unsigned_abs k ≤ 10 ^ 9 → from ≡ pos price → price ≤ MAX_PENALTY
    → to_z w64 (of_z w64 (to_z w64 (of_z w64 k) *ℤ to_z w64 (of_z w64 from))) ≡ k *ℤ pos price
cost-is k from price scale same small =
    let price_is : to_z w64 (of_z w64 from) ≡ pos price = (λ i. to_z w64 (of_z w64 (same i))) ∙ narrow (pos price) MAX_PENALTY small (lit< tt) in
    (λ i. to_z w64 (of_z w64 (narrow k (10 ^ 9) scale (lit< tt) i *ℤ price_is i)))
    ∙ narrow (k *ℤ pos price) (10 ^ 9 * MAX_PENALTY) (abs_mul k (pos price) (10 ^ 9) MAX_PENALTY scale small) (lit< tt)

cost-low : (k : ℤ) (price : ℕ) → pos 0 ≤ℤ k → pos 0 ≤ℤ (k *ℤ pos price)
cost-low (pos n) price low = omega (arith, ints)
cost-low (negsuc n) price low = absurd (omega (arith, ints))

-- what is saved, where that is something, and where it is nothing
saved-size : (cost multiplier : ℤ) → pos 0 ≤ℤ cost → unsigned_abs multiplier ≤ MAX_PRICE → lt_z cost multiplier ≡ true → unsigned_abs (cost -ℤ multiplier) ≤ MAX_PRICE
saved-size cost multiplier low size less = omega (arith, ints)

saved-is : (cost multiplier : ℤ) → lt_z cost multiplier ≡ true → cost -ℤ multiplier ≡ int_min (pos 0) (cost -ℤ multiplier)
saved-is cost multiplier less = omega (arith, ints, clamps)

none-saved : (cost multiplier : ℤ) → lt_z cost multiplier ≡ false → pos 0 ≡ int_min (pos 0) (cost -ℤ multiplier)
none-saved cost multiplier more = omega (arith, ints, clamps)

-- what both numbers are behind their bits, where something is saved
record IsSaved (cost multiplier z : ℤ) : Type 0 where
  pub size : unsigned_abs (cost -ℤ multiplier) ≤ MAX_PRICE
  pub value : cost -ℤ multiplier ≡ int_min (pos 0) (cost -ℤ multiplier)
  pub same : cost -ℤ multiplier ≡ z

facts : (k multiplier cost bits : ℤ) (price : ℕ) → pos 0 ≤ℤ k → unsigned_abs multiplier ≤ MAX_PRICE → cost ≡ k *ℤ pos price → bits ≡ multiplier → lt_z cost bits ≡ true
    → IsSaved (k *ℤ pos price) multiplier (cost -ℤ bits)
facts k multiplier cost bits price low size cost_is bits_is less =
    let less : lt_z (k *ℤ pos price) multiplier ≡ true = (λ i. lt_z (sym cost_is i) (sym bits_is i)) ∙ less in
    record {
      size = saved-size (k *ℤ pos price) multiplier (cost-low k price low) size less;
      value = saved-is (k *ℤ pos price) multiplier less;
      same = λ i. sym cost_is i -ℤ sym bits_is i;
    }

pub overflow_mul-cost : goal.overflow_mul-cost
overflow_mul-cost c =
    fits_signed_mul w64 (to_z w64 (of_z w64 c.args.k)) (to_z w64 (of_z w64 c.from.result)) (10 ^ 9) MAX_PENALTY
    (from-size c.args.k _ (10 ^ 9) refl (scale-size c.args.k c.requires.scale.0 c.requires.scale.1))
    (from-size c.from.result _ MAX_PENALTY refl (subst (λ z. unsigned_abs z ≤ MAX_PENALTY) (sym c.from.ensures) c.requires.price)) (lit< tt)

pub overflow_sub-result : goal.overflow_sub-result
overflow_sub-result c =
    let cost = cost-is c.args.k c.from.result c.args.price (scale-size c.args.k c.requires.scale.0 c.requires.scale.1) c.from.ensures c.requires.price in
    let saved = facts c.args.k c.args.multiplier _ _ c.args.price c.requires.scale.0 c.requires.multiplier cost (narrow c.args.multiplier MAX_PRICE c.requires.multiplier (lit< tt)) c.if-cost-multiplier.true in
    subst (FitsSigned w64) saved.same
    (fits_signed_from_abs w64 (c.args.k *ℤ pos c.args.price -ℤ c.args.multiplier) (omega (arith, saved.size)))

pub returns-then-cost-multiplier-clause-value : goal.returns-then-cost-multiplier-clause-value
returns-then-cost-multiplier-clause-value c =
    let cost = cost-is c.args.k c.from.result c.args.price (scale-size c.args.k c.requires.scale.0 c.requires.scale.1) c.from.ensures c.requires.price in
    let saved = facts c.args.k c.args.multiplier _ _ c.args.price c.requires.scale.0 c.requires.multiplier cost (narrow c.args.multiplier MAX_PRICE c.requires.multiplier (lit< tt)) c.if-cost-multiplier.true in
    (λ i. to_z w64 (of_z w64 (sym saved.same i))) ∙ narrow (c.args.k *ℤ pos c.args.price -ℤ c.args.multiplier) MAX_PRICE saved.size (lit< tt) ∙ saved.value

pub returns-then-cost-multiplier-clause-size : goal.returns-then-cost-multiplier-clause-size
returns-then-cost-multiplier-clause-size c =
    let cost = cost-is c.args.k c.from.result c.args.price (scale-size c.args.k c.requires.scale.0 c.requires.scale.1) c.from.ensures c.requires.price in
    let saved = facts c.args.k c.args.multiplier _ _ c.args.price c.requires.scale.0 c.requires.multiplier cost (narrow c.args.multiplier MAX_PRICE c.requires.multiplier (lit< tt)) c.if-cost-multiplier.true in
    subst (λ z. unsigned_abs (to_z w64 (of_z w64 z)) ≤ MAX_PRICE) saved.same
    (from-size (c.args.k *ℤ pos c.args.price -ℤ c.args.multiplier) _ MAX_PRICE refl saved.size)

pub returns-else-cost-multiplier-clause-value : goal.returns-else-cost-multiplier-clause-value
returns-else-cost-multiplier-clause-value c =
    let k = c.args.k in
    let price = c.args.price in
    let cost = cost-is k c.from.result price (scale-size k c.requires.scale.0 c.requires.scale.1) c.from.ensures c.requires.price in
    let multiplier = narrow c.args.multiplier MAX_PRICE c.requires.multiplier (lit< tt) in
    none-saved (k *ℤ pos price) c.args.multiplier ((λ i. lt_z (sym cost i) (sym multiplier i)) ∙ c.if-cost-multiplier.false)
