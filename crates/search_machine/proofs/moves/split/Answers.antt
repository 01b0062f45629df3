-- The leaf stores something else first, and is split then.
use Rattle.std.proofs.Common.{◌≡◌, ◌+◌, ◌≤◌, ap, sym, ◌∙◌, subst, arith}
use Rattle.branch_tree.specs.Prelude.{node_count, replaced, split_leaf, TreeView, IsOpenAt, IsFreeAt}
use Rattle.branch_tree.proofs.Grown.{closed_count}
use Rattle.search_machine.specs.Prelude.{closed, split}
use Rattle.search_machine.proofs.Growth.{open_again, free_again}
use Rattle.search_machine.proofs.moves.split.Goals as goal

pub split-requires-clause-live : goal.split-requires-clause-live
split-requires-clause-live c =
    let is = c.close.ensures.tree ∙ ap (closed c.args.tree.now c.args.node) c.live.ensures in
    subst (λ (tree : TreeView). IsOpenAt tree.nodes c.args.node) (sym is)
    (open_again c.args.tree.now c.args.node c.args.stored.now c.requires.placed c.requires.live)

pub split-requires-clause-free : goal.split-requires-clause-free
split-requires-clause-free c =
    subst (λ (tree : TreeView). IsFreeAt tree c.args.node c.args.g c.args.t) (sym c.close.ensures.tree)
    (free_again c.args.tree.now c.args.node c.args.g c.args.t c.live.result c.requires.placed c.requires.live c.requires.free)

pub split-requires-clause-room : goal.split-requires-clause-room
split-requires-clause-room c =
    subst (λ (tree : TreeView). node_count tree.nodes + 2 ≤ tree.room) (sym c.close.ensures.tree)
    (omega (arith, closed_count c.args.tree.now.nodes c.args.node c.live.result c.requires.placed c.requires.live, c.requires.room))

pub returns : goal.returns
returns c =
    let tree = c.close.new.self in
    let children = c.split.ensures.children in
    let numbered : c.split.new.self ≡ split tree c.args.node c.args.g c.args.t =
    c.split.ensures.tree
    ∙ (λ i. record tree { nodes = replaced c.args.node (split_leaf c.args.node c.args.g c.args.t (children.0 i) (children.1 i)) tree.nodes }) in
    numbered
    ∙ ap (λ (t : TreeView). split t c.args.node c.args.g c.args.t) (c.close.ensures.tree ∙ ap (closed c.args.tree.now c.args.node) c.live.ensures)
