-- What is left is that of the period as it is served.
use Rattle.std.proofs.Common.{◌*◌, arith}
use Rattle.uc_model.proofs.Common.{linear, narrow}
use Rattle.dispatch_repair.specs.Prelude.{served_by, MAX_POWER, MAX_UNITS}
use Rattle.dispatch_repair.proofs.Shortages.{totals_served}
use Rattle.dispatch_repair.proofs.period.start_of.Goals as goal

pub returns-clause-shortages : goal.returns-clause-shortages
returns-clause-shortages c = grind (arith, linear, narrow, c)

pub returns-clause-first : goal.returns-clause-first
returns-clause-first c = λ period totals demand need.
    let shortage = c.shortage_of-shortage.result in
    let shed = narrow shortage.shed (MAX_UNITS * (35 * MAX_POWER)) c.shortage_of-shortage.ensures.shed (omega arith) in
    let short = narrow shortage.short (MAX_UNITS * (35 * MAX_POWER)) c.shortage_of-shortage.ensures.short (omega arith) in
    let asked = narrow c.args.demand.now MAX_POWER c.requires.demand (omega arith) in
    let wanted = narrow c.args.need.now MAX_POWER c.requires.need (omega arith) in
    let left = narrow c.without.result (MAX_UNITS * (40 * MAX_POWER)) c.without.ensures.size (omega arith) in
    let kept = narrow c.without-2.result (MAX_UNITS * (40 * MAX_POWER)) c.without-2.ensures.size (omega arith) in
    c.left-left.ensures.first (served_by period shortage) (totals_served period shortage.shed shortage.short c.args.totals.now totals)
    (omega (arith, linear, left, c.without.ensures.value, asked, demand, shed)) (omega (arith, linear, kept, c.without-2.ensures.value, wanted, need, short))
