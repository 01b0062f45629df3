-- A product of known size.
use Rattle.std.proofs.Common.{◌*◌, ◌^◌, ◌≤◌, sym, subst, arith, unsigned_abs}
use Rattle.uc_model.specs.declared.limits.TheConstants.{MAX_PERIODS, MAX_POWER}
use Rattle.uc_model.proofs.Common.{narrow, scaled-size, wide-size}
use Rattle.uc_model.proofs.Sizes.{wide}
use Rattle.instance.proofs.shortages.most_cost.Goals as goal

pub returns : goal.returns
returns c =
    let price : unsigned_abs c.from.result ≤ 2 ^ 32 = subst (λ z. unsigned_abs z ≤ 2 ^ 32) (sym c.from.ensures) (omega (arith, c.ranges.price.fits)) in
    let size : unsigned_abs c.scaled.result ≤ 2 ^ 32 * (MAX_PERIODS * MAX_POWER) =
    scaled-size c.from.result c.above_zero.result c.scaled.result (2 ^ 32) (MAX_PERIODS * MAX_POWER) c.scaled.ensures price c.above_zero.ensures.size in
    record {
      value = grind (arith, wide, narrow, c, size, price);
      size = wide-size c.scaled.result (2 ^ 32 * (MAX_PERIODS * MAX_POWER)) size;
    }
