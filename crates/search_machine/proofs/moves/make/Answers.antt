-- The leaf is what the move makes of it.
use Rattle.std.proofs.Common.{ap, sym, ◌∙◌}
use Rattle.search_machine.specs.Prelude.{closed, empty_leaf, tree_after}
use Rattle.search_machine.proofs.moves.make.Goals as goal

pub returns-in-Again : goal.returns-in-Again
returns-in-Again c =
    c.close.ensures.tree ∙ ap (closed c.args.tree.now c.args.node) c.live.ensures
    ∙ sym (ap (tree_after c.args.tree.now c.args.node c.args.stored.now c.args.table c.args.exact c.args.outcome.now) c.in-Again.is)

pub returns-in-Prune : goal.returns-in-Prune
returns-in-Prune c =
    c.close-in-Prune.ensures.tree ∙ ap (closed c.args.tree.now c.args.node) c.pruned.ensures
    ∙ sym (ap (tree_after c.args.tree.now c.args.node c.args.stored.now c.args.table c.args.exact c.args.outcome.now) c.in-Prune.is)

pub returns-in-Ray : goal.returns-in-Ray
returns-in-Ray c =
    c.close-in-Ray.ensures.tree ∙ ap (closed c.args.tree.now c.args.node) c.by_ray.ensures
    ∙ sym (ap (tree_after c.args.tree.now c.args.node c.args.stored.now c.args.table c.args.exact c.args.outcome.now) c.in-Ray.is)

pub returns-in-Empty : goal.returns-in-Empty
returns-in-Empty c =
    c.close-in-Empty.ensures.tree
    ∙ ap (closed c.args.tree.now c.args.node) (c.by_unit.ensures ∙ ap (empty_leaf c.args.exact) c.unit_of.ensures)
    ∙ sym (ap (tree_after c.args.tree.now c.args.node c.args.stored.now c.args.table c.args.exact c.args.outcome.now) c.in-Empty.is)
