-- The nodes in preorder are those of the tree, so one of them claims by exact values exactly where one of these does.
use Rattle.std.proofs.Common.{arith, ◌≡◌, true, false, Option, get_or, sym, ap, ◌∙◌, take_all}
use Rattle.std.specs.List.{list_any}
use Rattle.std.specs.Option.{option_map_or}
use Rattle.std.proofs.lemmas.List.Folds.{list_any_at}
use Rattle.branch_tree.specs.Prelude.{tree_of, used_tables}
use Rattle.branch_tree.proofs.Preorder.{whole_part, numbers_within}
use Rattle.cert_text.specs.CertificateText.{is_exact_node}
use Rattle.cert_text.specs.inside.WrittenParts.{Spot, spot_node}
use Rattle.cert_text.proofs.Parts.{exact_at, exact_listed}
use Rattle.cert_text.proofs.tree.has_exact_leaf.Goals as goal

pub node-requires : goal.node-requires
node-requires c = grind (arith, numbers_within, whole_part, c)

pub returns-then-is_exact : goal.returns-then-is_exact
returns-then-is_exact c =
    let whole = c.args.tree.now.nodes in
    let used = used_tables (tree_of c.args.tree.now) in
    let items = c.as_slice-node-items.result.now in
    let number = get_or items c.loop-node.node-index 0 in
    let here : exact_at used whole number ≡ true =
    ap (λ (o : Option Spot). option_map_or (λ stands. is_exact_node (spot_node used stands)) o false) c.node.ensures
    ∙ sym (c.is_exact.ensures used) ∙ c.if-is_exact.true in
    let some : list_any (exact_at used whole) items ≡ true = list_any_at (exact_at used whole) items c.loop-node.node-index 0 c.loop-node-test.true here in
    sym some ∙ ap (list_any (exact_at used whole)) (c.as_slice-node-items.ensures ∙ c.requires.nodes)
    ∙ exact_listed used whole whole c.keeps_cover.ensures.numbered (whole_part whole)

pub returns : goal.returns
returns c = grind (arith, exact_at, take_all, exact_listed, whole_part, c)
