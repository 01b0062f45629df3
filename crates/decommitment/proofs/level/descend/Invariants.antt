-- The amounts stand at the level, wherever the walk has come.
use Rattle.decommitment.specs.inside.Fills.{IsWalked, hour_period}
use Rattle.decommitment.proofs.level.descend.Given as goal

abbrev pub invariant-loop : goal.invariant-loop
invariant-loop l = IsWalked (hour_period l.system l.hour) l.system.merit.now.order.items l.initial.fill l.fill
