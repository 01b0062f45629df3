-- The right sides of the limits so far.
use Rattle.std.proofs.Common.{◌≡◌, map, take}
use Rattle.dispatch_rules.specs.Prelude.{limit_of, right_of}
use Rattle.dispatch_rules.specs.declared.limit.LimitAt.{LimitAt}
use Rattle.dispatch_table.specs.Tasks.{task_of}
use Rattle.dispatch_table.proofs.rights.rights.Given as goal

abbrev pub invariant-loop-limit : goal.invariant-loop-limit
invariant-loop-limit l = l.rights.items ≡ map (λ (limit : LimitAt). right_of (task_of l.given) (limit_of limit)) (take l.limit-index l.limits)
