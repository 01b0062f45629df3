-- A unit is the instance's of its number, and its row the schedule's.
use Rattle.std.proofs.Common.{◌≡◌, ◌<◌, [], length, sym, ap, subst, ◌∙◌, arith, slice_index_or}
use Rattle.std.proofs.lemmas.List.{get_or_read}
use Rattle.uc_model.specs.Prelude.{IsLawfulThermal, thermal_unit, no_unit}
use Rattle.schedule_check.specs.WholeWatts.{IsSizedRow, row_of}
use Rattle.schedule_check.proofs.unit_rules.first_place.Goals as goal

pub first_period-requires-clause-lawful : goal.first_period-requires-clause-lawful
first_period-requires-clause-lawful c =
    let units = c.as_slice-units.result.now in
    let within : c.loop-unit.unit < length units = omega arith in
    let unit : c.index-units-unit.result ≡ thermal_unit c.args.instance.now c.loop-unit.unit =
    get_or_read units c.loop-unit.unit c.index-units-unit.result within c.index-units-unit.is no_unit
    ∙ ap (λ xs. slice_index_or xs c.loop-unit.unit no_unit) c.as_slice-units.ensures in
    subst IsLawfulThermal (sym unit) (c.requires.lawful.thermal c.loop-unit.unit (subst (λ xs. c.loop-unit.unit < length xs) c.as_slice-units.ensures within))

pub first_period-requires-clause-sized : goal.first_period-requires-clause-sized
first_period-requires-clause-sized c =
    let rows = c.as_slice-rows.result.now in
    let within : c.loop-unit.unit < length rows = omega (arith, ap length c.as_slice-rows.ensures, ap length c.as_slice-units.ensures, c.requires.shape.thermal) in
    let row : row_of c.args.printed.now c.loop-unit.unit ≡ c.as_slice.result.now =
    ap (λ xs. slice_index_or xs c.loop-unit.unit []) (sym c.as_slice-rows.ensures)
    ∙ sym (get_or_read rows c.loop-unit.unit c.index-rows-unit.result within c.index-rows-unit.is []) ∙ sym c.as_slice.ensures in
    subst IsSizedRow row (λ t. c.requires.sized.thermal c.loop-unit.unit t)
