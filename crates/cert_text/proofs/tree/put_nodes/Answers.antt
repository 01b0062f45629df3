-- The nodes in preorder are those of the tree, so their lines are.
use Rattle.std.proofs.Common.{arith, ◌≡◌, take, subst, ap, ◌∙◌, take_all}
use Rattle.std.specs.List.{flat_map}
use Rattle.branch_tree.specs.Prelude.{tree_of, leaf_claim}
use Rattle.cert_text.specs.CertificateText.{preorder, node_line}
use Rattle.cert_text.specs.inside.WrittenParts.{tree_part}
use Rattle.dual_model.specs.Prelude.{map_leaves}
use Rattle.branch_tree.proofs.Preorder.{whole_part, numbers_within}
use Rattle.cert_text.proofs.Parts.{line_at, lines_listed}
use Rattle.cert_text.proofs.tree.put_nodes.Goals as goal

pub node-requires : goal.node-requires
node-requires g c = grind (arith, numbers_within, whole_part, g, c)

pub returns : goal.returns
returns g c =
    let whole = c.args.tree.now.nodes in
    let used = c.args.layout.now.tables in
    let nodes = c.as_slice-node-items.ensures ∙ c.requires.nodes in
    let all : flat_map (line_at used whole) (take c.loop-node.node-index c.as_slice-node-items.result.now) ≡ tree_part c.args.tree.now =
    ap (flat_map (line_at used whole)) (take_all c.loop-node.node-index c.as_slice-node-items.result.now c.loop-node-test.false ∙ nodes)
    ∙ (lines_listed used whole whole c.keeps_cover.ensures.numbered (whole_part whole)
    ∙ ap (λ tables. flat_map node_line (preorder (map_leaves (leaf_claim tables) (tree_of c.args.tree.now)))) c.requires.tables) in
    subst (λ text. g.O.Out.emits text c.args.out.now c.loop-node.out) all c.loop-node.invariant
