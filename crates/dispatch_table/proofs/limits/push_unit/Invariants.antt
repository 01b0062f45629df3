-- The limits of the periods so far.
use Rattle.std.proofs.Common.{◌≡◌, ◌++◌, map}
use Rattle.dispatch_rules.specs.Prelude.{limit_of, rule_of, listed}
use Rattle.dispatch_table.specs.Tasks.{cell_limits, task_of}
use Rattle.dispatch_table.proofs.limits.push_unit.Given as goal

abbrev pub invariant-loop-t : goal.invariant-loop-t
invariant-loop-t l = map limit_of l.all.items ≡ map limit_of l.initial.all.items ++ listed l.t (cell_limits (task_of l.given) (rule_of l.rule) l.g)
