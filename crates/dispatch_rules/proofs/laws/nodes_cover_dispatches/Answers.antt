-- By the bound and the cost of lengths.
use Rattle.dispatch_rules.proofs.Bests.{node_covers_dispatch}
use Rattle.dispatch_rules.proofs.laws.nodes_cover_dispatches.Goals as goal

pub returns : goal.returns
returns c = node_covers_dispatch
