-- The hours that keep the ramps are a schedule of the unit within the pattern's value.
use Rattle.std.proofs.Common.{sym, subst}
use Rattle.uc_model.specs.Prelude.{commitment_of, thermal_unit}
use Rattle.hull_function.specs.Problems.{IsLawfulProblem}
use Rattle.hull_function.proofs.Units.{lawful-problem, unit-read}
use Rattle.unit_runs.proofs.Joined.{greatest_nonneg}
use Rattle.unit_exact.specs.inside.Hourly.{IsHourly}
use Rattle.unit_exact.specs.inside.Problems.{Thermal}
use Rattle.unit_exact.proofs.HourlySteps.{hourly-within}
use Rattle.unit_exact.proofs.exact.keeps_ramps.Goals as goal

pub is_hourly-requires-clause-lawful : goal.is_hourly-requires-clause-lawful
is_hourly-requires-clause-lawful c =
    let instance = c.args.instance.now in
    let table = c.args.table.now in
    let unit = unit-read instance c.as_slice.result.now c.args.g c.index-as_slice-g.result c.as_slice.ensures c.requires.unit c.index-as_slice-g.is in
    subst (λ (u : Thermal). IsLawfulProblem instance.periods table u) (sym unit) (lawful-problem instance table c.args.g c.requires.lawful c.requires.unit c.requires.table c.requires.limits)

pub returns-clause-within : goal.returns-clause-within
returns-clause-within c = λ node pattern kept.
    let instance = c.args.instance.now in
    let table = c.args.table.now in
    let unit = unit-read instance c.as_slice.result.now c.args.g c.index-as_slice-g.result c.as_slice.ensures c.requires.unit c.index-as_slice-g.is in
    let terms = c.args.plain.now.terms.now in
    let on = commitment_of c.args.plain.now.pattern.now in
    let lawful = c.requires.lawful.thermal c.args.g c.requires.unit in
    let hourly = subst (λ (u : Thermal). IsHourly instance.periods table u terms on) unit (c.is_hourly.ensures kept) in
    hourly-within instance node table c.args.g terms on lawful c.requires.terms pattern hourly (greatest_nonneg (thermal_unit instance c.args.g) lawful)
