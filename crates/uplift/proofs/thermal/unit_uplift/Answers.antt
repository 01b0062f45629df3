-- The unit and its row are those of its number, and its value is its part less its constant.
use Rattle.std.proofs.Common.{◌≡◌, ℕ, ◌+◌, ◌*◌, ◌≤◌, List, length, ap, subst, arith, unsigned_abs}
use Rattle.uc_model.specs.Prelude.{IsLawfulThermal, no_unit, thermal_unit}
use Rattle.uc_model.proofs.Common.{difference-is, difference-size, sum-fits, wide-size}
use Rattle.uc_model.proofs.Sizes.{wide}
use Rattle.dual_model.specs.Prelude.{MAX_PART}
use Rattle.ramp_duals.specs.Sizes.{MAX_CONSTANT}
use Rattle.schedule_check.specs.SizedNumbers.{IsSizedCell}
use Rattle.schedule_check.specs.WholeWatts.{HasPrice, cell, row_of}
use Rattle.uplift.specs.Sizes.{MAX_CHARGE, MAX_UNIT_COST, MAX_UPLIFT}
use Rattle.uplift.specs.Uplift.{Cell, Thermal}
use Rattle.uplift.proofs.Rows.{periods_are, read_is, reduced_is}
use Rattle.uplift.proofs.thermal.unit_uplift.Goals as goal

unit_is : (c : goal.After-difference-value) → thermal_unit c.args.instance.now c.args.g ≡ c.index-as_slice-g.result
unit_is c = read_is c.args.instance.now.thermal _ c.args.g c.index-as_slice-g.result no_unit c.as_slice.ensures c.requires.unit c.index-as_slice-g.is

row_is : (c : goal.After-difference-value) → row_of c.args.printed.now c.args.g ≡ c.as_slice-row.result.now
row_is c = grind (arith, read_is)

pub constant-requires-clause-lawful : goal.constant-requires-clause-lawful
constant-requires-clause-lawful c =
    subst IsLawfulThermal
    (read_is c.args.instance.now.thermal _ c.args.g c.index-as_slice-g.result no_unit c.as_slice.ensures c.requires.unit c.index-as_slice-g.is)
    (c.requires.lawful.thermal c.args.g c.requires.unit)

pub reduced_cost-requires-clause-unit : goal.reduced_cost-requires-clause-unit
reduced_cost-requires-clause-unit c = subst IsLawfulThermal (unit_is c) (c.requires.lawful.thermal c.args.g c.requires.unit)

pub reduced_cost-requires-clause-sized : goal.reduced_cost-requires-clause-sized
reduced_cost-requires-clause-sized c =
    subst (λ (cells : List Cell). (t : ℕ) → IsSizedCell (cell cells t)) (row_is c) (λ t. c.requires.sized.thermal c.args.g t)

pub reduced_cost-requires-clause-prices : goal.reduced_cost-requires-clause-prices
reduced_cost-requires-clause-prices c =
    let row = row_is c in
    let periods = periods_are c.args.instance.now c.args.printed.now c.args.g c.requires.shape c.requires.unit in
    λ t h. subst (λ (u : Thermal). HasPrice u (cell c.as_slice-row.result.now t)) (unit_is c)
    (subst (λ (cells : List Cell). HasPrice (thermal_unit c.args.instance.now c.args.g) (cell cells t)) row
    (c.requires.prices c.args.g t c.requires.unit (omega (arith, h, ap length row, periods))))

value-size : (c : goal.After-reduced_cost) → unsigned_abs c.difference-value.result ≤ MAX_PART + MAX_CONSTANT
value-size c = grind arith

pub difference-requires : goal.difference-requires
difference-requires c =
    sum-fits c.reduced_cost.result c.difference-value.result (MAX_UNIT_COST + 168 * MAX_CHARGE) (MAX_PART + MAX_CONSTANT) c.reduced_cost.ensures.size
    (value-size c) (omega arith)

size : (c : goal.After-difference) → unsigned_abs c.difference.result ≤ MAX_UPLIFT
size c =
    let both = difference-size c.reduced_cost.result c.difference-value.result c.difference.result (MAX_UNIT_COST + 168 * MAX_CHARGE) (MAX_PART + MAX_CONSTANT)
    c.difference.ensures c.reduced_cost.ensures.size (value-size c.before) in
    omega (arith, both)

pub returns-clause-size : goal.returns-clause-size
returns-clause-size c = wide-size c.difference.result MAX_UPLIFT (size c)

pub returns-clause-value : goal.returns-clause-value
returns-clause-value c = grind (arith, unit_is, row_is, reduced_is, periods_are, size, difference-is, wide, value-size, c)
