-- Part by part of the node's value.
use Rattle.dispatch_rules.proofs.NodeBounds.{last_rows_bound}
use Rattle.dispatch_rules.proofs.laws.last_rows_bound.Goals as goal

pub returns : goal.returns
returns c = last_rows_bound
