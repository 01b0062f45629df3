-- The least way from the initial state on is the unit's exact value.
use Rattle.std.proofs.Common.{◌≡◌, sym, ap, subst, ◌∙◌, arith, to_z, of_z}
use Rattle.std.specs.Int.{w64}
use Rattle.std.proofs.lemmas.Int.{ints}
use Rattle.std.proofs.lemmas.Option.{IfSome_then}
use Rattle.uc_model.specs.Prelude.{commitment_of, thermal_unit}
use Rattle.hull_function.specs.Hulls.{IsHull}
use Rattle.hull_function.specs.Problems.{IsLawfulProblem}
use Rattle.hull_function.proofs.Units.{lawful-problem, unit-read}
use Rattle.unit_exact.specs.inside.Problems.{Thermal}
use Rattle.unit_exact.proofs.ExactSizes.{value-small}
use Rattle.unit_exact.proofs.Found.{IsFound, found-attained, found-none, found-pattern, found-value}
use Rattle.unit_exact.proofs.exact.least.Goals as goal
use Rattle.unit_exact.proofs.exact.least.Goals.{After-least_way}

pub least_way-requires-clause-lawful : goal.least_way-requires-clause-lawful
least_way-requires-clause-lawful c =
    let instance = c.args.instance.now in
    let table = c.args.table.now in
    let unit = unit-read instance c.as_slice.result.now c.args.g c.index-as_slice-g.result c.as_slice.ensures c.requires.unit c.index-as_slice-g.is in
    subst (λ (u : Thermal). IsLawfulProblem instance.periods table u) (sym unit) (lawful-problem instance table c.args.g c.requires.lawful c.requires.unit c.requires.table c.requires.limits)

found_is : (c : After-least_way)
    → IsFound c.args.instance.now.periods c.args.table.now (thermal_unit c.args.instance.now c.args.g) c.args.fix.now c.least_way.result
found_is c =
    subst (λ (u : Thermal). IsFound c.args.instance.now.periods c.args.table.now u c.args.fix.now c.least_way.result)
    (unit-read c.args.instance.now c.as_slice.result.now c.args.g c.index-as_slice-g.result c.as_slice.ensures c.requires.unit c.index-as_slice-g.is)
    (record { least = c.least_way.ensures.least; way = c.least_way.ensures.way })

pub returns-clause-value : goal.returns-clause-value
returns-clause-value c =
    found-value c.args.instance.now c.args.table.now c.args.g c.args.fix.now c.least_way.result c.requires.lawful c.requires.unit
    (found_is (goal.at.returns-clause-value c).After-least_way)

pub returns-clause-pattern : goal.returns-clause-pattern
returns-clause-pattern c =
    found-pattern c.args.instance.now c.args.table.now c.args.g c.args.fix.now c.least_way.result c.requires.lawful c.requires.unit
    (found_is (goal.at.returns-clause-pattern c).After-least_way)

pub returns-clause-attained : goal.returns-clause-attained
returns-clause-attained c =
    found-attained c.args.instance.now c.args.table.now c.args.g c.args.fix.now c.least_way.result c.requires.lawful c.requires.unit
    (found_is (goal.at.returns-clause-attained c).After-least_way)

pub returns-clause-none : goal.returns-clause-none
returns-clause-none c =
    found-none c.args.instance.now c.args.table.now c.args.g c.args.fix.now c.least_way.result c.requires.lawful c.requires.unit
    (found_is (goal.at.returns-clause-none c).After-least_way)

pub returns-clause-size : goal.returns-clause-size
returns-clause-size c =
    let instance = c.args.instance.now in
    let table = c.args.table.now in
    let unit = unit-read instance c.as_slice.result.now c.args.g c.index-as_slice-g.result c.as_slice.ensures c.requires.unit c.index-as_slice-g.is in
    let found = found_is (goal.at.returns-clause-size c).After-least_way in
    let attained = found-attained instance table c.args.g c.args.fix.now c.least_way.result c.requires.lawful c.requires.unit found in
    let scale : to_z w64 (of_z w64 c.k.result) ≡ table.k = (let fits = c.k.type_inv in let is = c.k.ensures in omega (arith, ints)) in
    let points : c.as_slice-2.result.now ≡ (thermal_unit instance c.args.g).points = c.as_slice-2.ensures ∙ ap (λ (u : Thermal). u.points) unit in
    let hull = subst (λ k. IsHull (thermal_unit instance c.args.g).points k c.fill.new.function) scale
    (subst (λ ps. IsHull ps (to_z w64 (of_z w64 c.k.result)) c.fill.new.function) points c.fill.ensures.hull) in
    let lawful = lawful-problem instance table c.args.g c.requires.lawful c.requires.unit c.requires.table c.requires.limits in
    IfSome_then c.least_way.result attained (λ best is.
    value-small instance.periods table (thermal_unit instance c.args.g) lawful c.fill.new.function hull (commitment_of best.1) best.0 is)
