-- The root is open.
use Rattle.std.proofs.Common.{refl, false, pos, sym, subst}
use Rattle.branch_tree.specs.Prelude.{TreeView, IsOpenAt}
use Rattle.search_machine.proofs.start.root.Goals as goal

pub close-requires : goal.close-requires
close-requires c = record {
  live = subst (λ (tree : TreeView). IsOpenAt tree.nodes 0) (sym c.in_ok-tree.ensures.tree)
      (record { table = 0; value = pos 0; exact = false; live = refl });
}
