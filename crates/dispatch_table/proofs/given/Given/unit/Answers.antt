-- The unit is the instance's.
use Rattle.std.proofs.Common.{sym, subst, ap, ◌∙◌, ◌<◌, length, get_or}
use Rattle.std.proofs.lemmas.List.{get_or_read}
use Rattle.uc_model.specs.Prelude.{IsLawfulThermal, no_unit}
use Rattle.dispatch_table.proofs.given.Given.unit.Goals as goal

pub returns-clause-lawful : goal.returns-clause-lawful
returns-clause-lawful c =
    let g = c.args.g in
    subst IsLawfulThermal
    (sym (get_or_read c.as_slice.result.now g c.index-as_slice-g.result (subst (λ xs. g < length xs) (sym c.as_slice.ensures) c.requires.unit) c.index-as_slice-g.is no_unit
    ∙ ap (λ xs. get_or xs g no_unit) c.as_slice.ensures))
    (c.requires.given.lawful.thermal g c.requires.unit)
