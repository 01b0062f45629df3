-- The limits of the units so far.
use Rattle.std.proofs.Common.{◌≡◌, ◌++◌, map}
use Rattle.dispatch_rules.specs.Prelude.{limit_of, rule_of, listed}
use Rattle.dispatch_table.specs.Tasks.{task_of, unit_limits}
use Rattle.dispatch_table.proofs.limits.push_rule.Given as goal

abbrev pub invariant-loop-g : goal.invariant-loop-g
invariant-loop-g l = map limit_of l.all.items ≡ map limit_of l.initial.all.items ++ listed l.g (unit_limits (task_of l.given) (rule_of l.rule))
