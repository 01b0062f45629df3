-- The most-on commitment stands as its trial ended.
use Rattle.std.proofs.Common.{arith}
use Rattle.decommitment.proofs.RunTurns.{stand_dispatched, trial_stuck}
use Rattle.decommitment.proofs.pass.first_stand.Goals as goal

pub returns-in-Dispatched : goal.returns-in-Dispatched
returns-in-Dispatched c = stand_dispatched c.args.instance.now c.args.patterns.now c.args.trial c.in-Dispatched.cost c.requires.lawful c.requires.trial c.in-Dispatched.is

pub where_stuck-requires-clause-stuck : goal.where_stuck-requires-clause-stuck
where_stuck-requires-clause-stuck c = trial_stuck c.args.instance.now c.args.patterns.now c.args.trial c.in-Stuck.period c.requires.trial c.in-Stuck.is

pub returns-in_ok-where_stuck-in-Stuck : goal.returns-in_ok-where_stuck-in-Stuck
returns-in_ok-where_stuck-in-Stuck c = grind (arith, c)
