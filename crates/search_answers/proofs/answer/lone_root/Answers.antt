-- A fresh root is open.
use Rattle.std.proofs.Common.{false, pos, refl, subst, sym}
use Rattle.branch_tree.specs.Prelude.{TreeView, IsOpenAt}
use Rattle.search_answers.proofs.answer.lone_root.Goals as goal

pub close-requires : goal.close-requires
close-requires c =
    record { live = subst (λ (tree : TreeView). IsOpenAt tree.nodes 0) (sym c.in_ok-tree.ensures.tree) (record { table = 0; value = pos 0; exact = false; live = refl }) }
