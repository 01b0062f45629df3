-- Limit by limit, in order.
use Rattle.dispatch_rules.proofs.Distinct.{limits_are_once, limits_sum}
use Rattle.dispatch_rules.proofs.laws.limits_are_rules.Goals as goal

pub returns-clause-once : goal.returns-clause-once
returns-clause-once c = limits_are_once

pub returns-clause-sum : goal.returns-clause-sum
returns-clause-sum c = limits_sum
