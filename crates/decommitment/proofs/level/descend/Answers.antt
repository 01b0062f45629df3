-- A step down more.
use Rattle.std.proofs.Common.{arith}
use Rattle.decommitment.specs.inside.Fills.{hour_period}
use Rattle.decommitment.proofs.Steps.{walked_none}
use Rattle.decommitment.proofs.level.descend.Goals as goal

pub loop-init : goal.loop-init
loop-init c = walked_none (hour_period c.args.system.now c.args.hour.now) c.args.system.now.merit.now.order.items c.args.fill.now c.requires.standing

pub loop-preserved : goal.loop-preserved
loop-preserved c = grind (arith, c)
