-- The amounts of the periods so far.
use Rattle.std.proofs.Common.{◌≡◌}
use Rattle.dispatch_rules.specs.Prelude.{amounts_in, listed}
use Rattle.dispatch_table.specs.Tasks.{task_of}
use Rattle.dispatch_table.proofs.amounts.amounts.Given as goal

abbrev pub invariant-loop-t : goal.invariant-loop-t
invariant-loop-t l = l.all.items ≡ listed l.t (amounts_in (task_of l.given))
