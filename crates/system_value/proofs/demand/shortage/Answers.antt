-- The numbers as their bits say them, and the case of the price.
use Rattle.std.proofs.Common.{◌≤◌, ◌^◌, ◌∙◌, sym, arith, lit<, pos, ◌-ℤ◌, ◌*ℤ◌, unsigned_abs}
use Rattle.std.specs.Int.{int_min, int_max}
use Rattle.std.proofs.lemmas.Bool.{cond-true, lt-ltb}
use Rattle.std.proofs.lemmas.Int.{ints}
use Rattle.uc_model.proofs.Common.{narrow}
use Rattle.uc_model.proofs.Sizes.{wide}
use Rattle.system_value.specs.Sizes.{MAX_CELL, MAX_POWER, MAX_PRICE}
use Rattle.system_value.proofs.demand.shortage.Goals as goal

pub returns-then-price-gt0-clause-value : goal.returns-then-price-gt0-clause-value
returns-then-price-gt0-clause-value c =
    let scale : unsigned_abs c.args.k ≤ 10 ^ 9 = omega (arith, ints, c.requires.scale.0, c.requires.scale.1) in
    let need = narrow c.args.need MAX_POWER c.requires.need (lit< tt) in
    let k = narrow c.args.k (10 ^ 9) scale (lit< tt) in
    let multiplier = narrow c.args.multiplier MAX_PRICE c.requires.multiplier (lit< tt) in
    wide c.priced.result MAX_CELL c.priced.ensures.size (lit< tt)
    ∙ c.priced.ensures.value
    ∙ (λ i. narrow c.saved.result MAX_PRICE c.saved.ensures.size (lit< tt) i *ℤ narrow c.above_zero.result MAX_POWER c.above_zero.ensures.size (lit< tt) i)
    ∙ (λ i. c.saved.ensures.value i *ℤ c.above_zero.ensures.value i)
    ∙ (λ i. int_min (pos 0) (k i *ℤ pos c.args.price -ℤ multiplier i) *ℤ int_max (need i) (pos 0))
    ∙ sym (cond-true _ _ _ (lt-ltb _ _ c.if-price-gt0.true))
