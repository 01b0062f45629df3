-- Each unit of a lawful instance is lawful.
use Rattle.std.proofs.Common.{◌≡◌, ◌<◌, get_or, length, sym, subst}
use Rattle.std.proofs.lemmas.List.{get_or_read}
use Rattle.uc_model.specs.Prelude.{IsLawfulThermal, no_unit}
use Rattle.repair_state.proofs.unit.unit_at.Goals as goal

pub returns-then-g-units : goal.returns-then-g-units
returns-then-g-units c =
    let all = c.as_slice-units.ensures in
    let inside = subst (λ units. c.args.g < length units) all c.if-g-units.true in
    let found = get_or_read c.args.instance.now.thermal c.args.g c.index-units-g.result inside
    (subst (λ units. c.index-units-g.result ≡ get_or units c.args.g c.index-units-g.result) all c.index-units-g.is) no_unit in
    subst IsLawfulThermal (sym found) (c.requires.thermal c.args.g inside)
