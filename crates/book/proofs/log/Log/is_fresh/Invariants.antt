-- So far back no entry is at the table, and the link leads to the next one of the node.
use Rattle.book.specs.inside.Chains.{IsWalked}
use Rattle.book.proofs.log.Log.is_fresh.Given as goal

abbrev pub invariant-loop-link : goal.invariant-loop-link
invariant-loop-link l = IsWalked l.self.entries l.tables l.table l.exact l.node l.link

abbrev pub decreases-loop-link : goal.decreases-loop-link
decreases-loop-link l = l.link
