-- A unit has at most 64 points, and its curve no more corners.
use Rattle.std.proofs.Common.{◌≡◌, ◌≤◌, [], arith, ap, ◌∙◌, length}
use Rattle.std.proofs.lemmas.List.{get_or_default}
use Rattle.uc_model.specs.Prelude.{thermal_unit}
use Rattle.cost_curves.specs.UnitCurves.{curve_in}
use Rattle.dispatch_table.proofs.Corners.{few_corners}
use Rattle.dispatch_table.proofs.given.Given.corners.Goals as goal

curve_is : (c : goal.After-corners) → c.corners.result.now ≡ curve_in c.args.self.now.curves.now c.args.g
curve_is c =
    let given = c.requires.given in
    c.corners.ensures.value ∙ get_or_default c.args.self.now.curves.now c.args.g c.index-self-g.result [] (omega (arith, given.curves.count, c.requires.unit))

pub returns-clause-value : goal.returns-clause-value
returns-clause-value c = curve_is c

pub returns-clause-few : goal.returns-clause-few
returns-clause-few c =
    let given = c.args.self.now in
    let g = c.args.g in
    let few : length (curve_in given.curves.now g) ≤ length (thermal_unit given.instance.now g).points =
    few_corners (thermal_unit given.instance.now g).points (curve_in given.curves.now g) (c.requires.given.curves.curve g c.requires.unit) in
    let most = (c.requires.given.lawful.thermal g c.requires.unit).points.1 in
    let same = ap length (curve_is c) in
    omega arith
