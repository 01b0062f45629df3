-- The amounts of the thermal units so far.
use Rattle.std.proofs.Common.{◌≡◌, ◌++◌}
use Rattle.dispatch_rules.specs.Prelude.{listed, unit_amounts}
use Rattle.dispatch_table.specs.Tasks.{task_of}
use Rattle.dispatch_table.proofs.amounts.push_period.Given as goal

abbrev pub invariant-loop-g : goal.invariant-loop-g
invariant-loop-g l = l.all.items ≡ l.initial.all.items ++ listed l.g (unit_amounts (task_of l.given) l.t)
