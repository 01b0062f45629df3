-- The limits of the rules so far.
use Rattle.std.proofs.Common.{◌≡◌, map}
use Rattle.dispatch_rules.specs.Prelude.{limit_of, limits_of, listed, rule_from}
use Rattle.dispatch_table.specs.Tasks.{task_of}
use Rattle.dispatch_table.proofs.limits.limits.Given as goal

abbrev pub invariant-loop-n : goal.invariant-loop-n
invariant-loop-n l = map limit_of l.all.items ≡ listed l.n (λ n. limits_of (task_of l.given) (rule_from n))
