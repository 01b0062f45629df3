-- Each turn walks the part of the number that was taken.
use Rattle.std.proofs.Common.{length, sym, ap, ◌∙◌, arith}
use Rattle.std.proofs.lemmas.List.{length_push, nil_from_length}
use Rattle.branch_tree.proofs.Preorder.{walk_begins, walk_ends, walk_next, next_within, next_node, walk_on}
use Rattle.branch_tree.proofs.layout.preorder.Goals as goal

pub loop-node-init : goal.loop-node-init
loop-node-init c = grind (arith, walk_begins, c)

pub node-requires : goal.node-requires
node-requires c =
    next_node c.args.tree.now.nodes c.in-Some.node c.pop.new.self.items c.loop-node.nodes.items c.keeps_cover.ensures.numbered
    (walk_next c.args.tree.now.nodes c.loop-node.pending.items c.loop-node.nodes.items c.pop.new.self.items c.in-Some.node
    c.loop-node.invariant c.in-Some.ensures.items)

pub loop-node-smaller : goal.loop-node-smaller
loop-node-smaller c =
    let whole = c.args.tree.now.nodes in
    let few = next_within whole c.in-Some.node c.pop.new.self.items c.loop-node.nodes.items
    (walk_next whole c.loop-node.pending.items c.loop-node.nodes.items c.pop.new.self.items c.in-Some.node
    c.loop-node.invariant c.in-Some.ensures.items) in
    omega (arith, length_push c.loop-node.nodes.items c.in-Some.node, ap length c.in_ok-push.ensures.items)

pub loop-node-preserved : goal.loop-node-preserved
loop-node-preserved c = grind (arith, walk_on, walk_next, c)

pub returns : goal.returns
returns c = walk_ends c.args.tree.now.nodes c.loop-node.pending.items c.loop-node.nodes.items c.loop-node.invariant
    (nil_from_length c.loop-node.pending.items (sym c.loop-node.pending.ok.0 ∙ c.in_default.ensures.cases.0))
