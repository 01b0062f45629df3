-- Each number is what its bits say.
use Rattle.std.proofs.Common.{rules, FitsSigned}
use Rattle.std.specs.Int.{w128}
use Rattle.std.proofs.lemmas.Int.{to_z-of_z}
use Rattle.report.proofs.uplift.put_uplift.Goals as goal

pub returns : goal.returns
returns g c =
    let numbers = c.args.numbers.now in
    let shed_fits : FitsSigned w128 numbers.shed = search rules in
    let reserve_fits : FitsSigned w128 numbers.reserve_slack = search rules in
    let ramp_fits : FitsSigned w128 numbers.ramp_slack = search rules in
    let total_fits : FitsSigned w128 numbers.total = search rules in
    let shed = simp to_z-of_z at c.put_shed.ensures in
    let reserve = simp to_z-of_z at c.put_number.ensures in
    let ramp = simp to_z-of_z at c.put_number-2.ensures in
    let total = simp to_z-of_z at c.put_number-3.ensures in
    search rules
