-- The unit is the instance's of its number, and its row the schedule's.
use Rattle.std.proofs.Common.{◌≡◌, ℕ, ◌<◌, List, length, subst, arith, get_or}
use Rattle.std.proofs.lemmas.List.{get_or_read}
use Rattle.uc_model.specs.Prelude.{IsLawfulThermal, HasShapeOf, thermal_count, no_unit}
use Rattle.uc_model.specs.declared.instance.Instance.{Instance}
use Rattle.uc_model.proofs.Sizes.{wide}
use Rattle.schedule_check.specs.WholeWatts.{Printed, row_of}
use Rattle.schedule_check.proofs.pricing.unit_cost.Goals as goal

-- an element that was read of a list is the one that stands there
read_is : {X : Type 0} (xs ys : List X) (k : ℕ) (x other : X) → ys ≡ xs → k < length xs → x ≡ get_or ys k x → get_or xs k other ≡ x
read_is xs ys k x other same within is = grind (arith, get_or_read, same, within, is)

periods_are : (instance : Instance) (printed : Printed) (g : ℕ) → HasShapeOf instance printed → g < thermal_count instance
    → length (row_of printed g) ≡ instance.periods
periods_are instance printed g shape within = grind (arith, shape, within)

pub row_cost_over-requires-clause-unit : goal.row_cost_over-requires-clause-unit
row_cost_over-requires-clause-unit c =
    let unit = read_is c.args.instance.now.thermal _ c.args.g c.index-as_slice-g.result no_unit c.as_slice.ensures c.requires.unit c.index-as_slice-g.is in
    subst IsLawfulThermal unit (c.requires.lawful.thermal c.args.g c.requires.unit)

pub row_cost_over-requires-clause-prices : goal.row_cost_over-requires-clause-prices
row_cost_over-requires-clause-prices c = grind (arith, read_is, periods_are, c)

pub returns-clause-value : goal.returns-clause-value
returns-clause-value c = grind (arith, read_is, wide, periods_are, c)
