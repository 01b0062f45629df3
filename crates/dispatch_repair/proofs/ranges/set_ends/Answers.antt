-- Both kinds together.
use Rattle.std.proofs.Common.{sym, subst}
use Rattle.dispatch_repair.specs.Prelude.{period_after, IsRangeOf, thermal_amount}
use Rattle.dispatch_repair.proofs.Places.{ranges_from}
use Rattle.dispatch_repair.proofs.ranges.set_ends.Goals as goal

pub returns-clause-ranges : goal.returns-clause-ranges
returns-clause-ranges c =
    let instance = c.args.instance.now in
    let before = thermal_amount instance c.args.amounts.now in
    let period = period_after instance c.args.patterns.now c.args.t before in
    ranges_from period c.set_thermal.new.ranges
    (λ w h. subst (IsRangeOf period w) (sym (c.set_thermal.ensures.others w h)) (c.set_renewable.ensures.ranges c.args.patterns.now before w h))
    c.set_thermal.ensures.ranges
