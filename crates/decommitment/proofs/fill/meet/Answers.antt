-- Where demand is met within the limit the period is filled.
use Rattle.decommitment.proofs.LevelFills.{settled}
use Rattle.decommitment.proofs.fill.meet.Goals as goal

pub returns-then-is_met-clause-filling : goal.returns-then-is_met-clause-filling
returns-then-is_met-clause-filling c =
    settled c.args.system.now c.args.hour.now c.requires.hour c.args.fill.now c.walk.new.fill c.args.left.now c.target_of-target.result c.requires.ready c.requires.begun
    c.walk.ensures c.target_of-target.ensures.all c.target_of-target.ensures.thermal (c.is_met.ensures c.if-is_met.true)
