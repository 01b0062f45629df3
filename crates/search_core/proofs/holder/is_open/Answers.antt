-- An open leaf's number is that of a node.
use Rattle.std.proofs.Common.{arith}
use Rattle.branch_tree.proofs.Grown.{open_below}
use Rattle.search_core.proofs.holder.is_open.Goals as goal

pub returns-then-node-count : goal.returns-then-node-count
returns-then-node-count c = (
  (λ h. absurd (cc)),
  (λ free. absurd (omega (arith, open_below c.args.tree.now.nodes c.args.node c.keeps_cover.ensures.numbered free.0))),
)
