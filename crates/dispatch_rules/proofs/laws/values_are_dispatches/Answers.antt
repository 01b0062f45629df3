-- Rule by rule.
use Rattle.dispatch_rules.proofs.Primals.{values_dispatch_is}
use Rattle.dispatch_rules.proofs.laws.values_are_dispatches.Goals as goal

pub returns : goal.returns
returns c = values_dispatch_is
