-- Without an obstacle what is left at first isn't below 0.
use Rattle.std.proofs.Common.{arith}
use Rattle.dispatch_repair.proofs.Shortages.{started}
use Rattle.dispatch_repair.proofs.period.start_from.Goals as goal

pub returns-in-Some : goal.returns-in-Some
returns-in-Some c = λ period same within ranges totals demand need. c.in-Some.ensures period same ranges totals demand need

pub returns-in-None : goal.returns-in-None
returns-in-None c = grind (arith, started, c)
