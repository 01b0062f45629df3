-- How large a unit's constant is.
use Rattle.std.proofs.Common.{ℕ, zero, suc, ◌+◌, ◌*◌, ◌<◌, ◌≤◌, arith, ℤ, ◌-ℤ◌, ◌*ℤ◌, unsigned_abs, neg_ℤ}
use Rattle.std.proofs.lemmas.Int.{ints}
use Rattle.uc_model.specs.Prelude.{initial_p, IsLawfulThermal, sum_below}
use Rattle.uc_model.specs.declared.limits.TheConstants.{MAX_PERIODS, MAX_POWER}
use Rattle.uc_model.specs.declared.instance.Thermal.{Thermal}
use Rattle.uc_model.proofs.Common.{abs_add, abs_mul, abs_sub}
use Rattle.dual_model.specs.Prelude.{unit_constant, IsWithinLimits, down_at, up_at}
use Rattle.dual_model.specs.declared.limits.TheConstants.{MAX_PRICE}
use Rattle.dual_model.specs.declared.table.Table.{Table}
use Rattle.ramp_duals.specs.Sizes.{MAX_CONSTANT}
use Rattle.ramp_duals.proofs.PriceSizes.{priced_at}

-- the size of a sum of as many terms of this size
pub sum_below-size : (n m : ℕ) (f : ℕ → ℤ) → ((k : ℕ) → k < n → unsigned_abs (f k) ≤ m) → unsigned_abs (sum_below n f) ≤ n * m
sum_below-size zero m f h = omega arith
sum_below-size (suc n) m f h =
    let before = sum_below-size n m f (λ k l. h k (omega arith)) in
    omega (arith, abs_add (sum_below n f) (f n) (n * m) m before (h n (omega arith)))

initial_size : (unit : Thermal) → IsLawfulThermal unit → unsigned_abs (initial_p unit) ≤ 2 * MAX_POWER
initial_size unit lawful = grind (arith, ints, lawful)

pub constant_size : (periods : ℕ) (table : Table) (unit : Thermal) (g : ℕ) → periods ≤ MAX_PERIODS → IsWithinLimits table → IsLawfulThermal unit
    → unsigned_abs (unit_constant periods table unit g) ≤ MAX_CONSTANT
constant_size periods table unit g few limits lawful =
    let part = λ (t : ℕ). neg_ℤ (up_at table g t *ℤ unit.ru) -ℤ down_at table g t *ℤ unit.rd in
    let most : ℕ = MAX_PRICE * MAX_POWER in
    let each : (t : ℕ) → t < periods → unsigned_abs (part t) ≤ 2 * most =
    λ t h.
    omega (
      arith,
      abs_sub (neg_ℤ (up_at table g t *ℤ unit.ru)) (down_at table g t *ℤ unit.rd) most most
          (omega (arith, ints, abs_mul (up_at table g t) unit.ru MAX_PRICE MAX_POWER (priced_at table limits g t).up lawful.ramp_up.power))
          (abs_mul (down_at table g t) unit.rd MAX_PRICE MAX_POWER (priced_at table limits g t).down lawful.ramp_down.power),
    ) in
    let ramps = sum_below-size periods (2 * most) part each in
    let gap = abs_sub (down_at table g 0) (up_at table g 0) MAX_PRICE MAX_PRICE (priced_at table limits g 0).down (priced_at table limits g 0).up in
    let first = abs_mul (down_at table g 0 -ℤ up_at table g 0) (initial_p unit) (MAX_PRICE + MAX_PRICE) (2 * MAX_POWER) gap (initial_size unit lawful) in
    let all = abs_add (sum_below periods part) ((down_at table g 0 -ℤ up_at table g 0) *ℤ initial_p unit) (periods * (2 * most)) ((MAX_PRICE + MAX_PRICE) * (2 * MAX_POWER)) ramps first in
    omega (arith, all)
