-- The unit at the place is the instance's.
use Rattle.std.proofs.Common.{◌≡◌, ◌<◌, length, sym, ap, subst, ◌∙◌, slice_index_or}
use Rattle.std.proofs.lemmas.List.{get_or_read}
use Rattle.uc_model.specs.Prelude.{IsLawfulThermal, thermal_unit, no_unit}
use Rattle.dispatch_repair.proofs.rows.committed_cell.Goals as goal

pub start_category-category-requires-clause-lawful : goal.start_category-category-requires-clause-lawful
start_category-category-requires-clause-lawful c =
    let instance = c.args.instance.now in
    let within : c.args.g < length c.as_slice.result.now = subst (λ xs. c.args.g < length xs) (sym c.as_slice.ensures) c.requires.unit in
    let unit : c.index-as_slice-g.result ≡ thermal_unit instance c.args.g =
    get_or_read c.as_slice.result.now c.args.g c.index-as_slice-g.result within c.index-as_slice-g.is no_unit
    ∙ ap (λ xs. slice_index_or xs c.args.g no_unit) c.as_slice.ensures in
    subst IsLawfulThermal (sym unit) (c.requires.lawful.thermal c.args.g c.requires.unit)
