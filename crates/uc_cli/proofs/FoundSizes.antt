-- How many tables and nodes the certificate of what was found has, by the nodes of its tree.
use Rattle.std.proofs.Common.{◌≡◌, ℕ, suc, ◌*◌, ◌≤◌, All, List, [], ◌∷◌, length, not, ◌==◌, arith}
use Rattle.std.specs.List.{flat_map}
use Rattle.std.proofs.lemmas.List.{length-append, length-map}
use Rattle.std.proofs.lemmas.List.Sums.{count_by-le-length, length-filter}
use Rattle.dual_model.specs.Cover as cover
use Rattle.dual_model.specs.Prelude.{map_leaves}
use Rattle.branch_tree.specs.declared.found.Found.{Found}
use Rattle.branch_tree.specs.declared.tree.Leaf.{Leaf}
use Rattle.branch_tree.specs.Prelude.{Table, certificate_of, written_tables, NumberedTree, EndAt, SplitAt, node_count, unnumbered, Instance, each_once, leaf_tables, leaves}
use Rattle.branch_tree.specs.declared.tree.Leaf.TheVariants as leaf
use Rattle.cert_text.specs.CertificateText.{listing_of, preorder}
use Rattle.uc_check.specs.Accepting.{most_rows, IsLittle}

-- a tree has one leaf more than splits
leaves_counted : (tree : NumberedTree) → 2 * length (leaves (unnumbered tree)) ≡ suc (node_count tree)
leaves_counted (EndAt number leaf) = omega arith
leaves_counted (SplitAt number g t off on) = grind (arith, length-append, number, g, t, off, on, (leaves_counted off), (leaves_counted on))

-- each leaf uses a table at most
leaf_few : (leaf : Leaf) → length (leaf_tables leaf) ≤ 1
leaf_few (leaf.Live table value exact) = omega arith
leaf_few (leaf.Bound table value exact) = omega arith
leaf_few (leaf.Ray table) = omega arith
leaf_few (leaf.Empty g) = omega arith
leaf_few (leaf.ExactRay table) = omega arith
leaf_few (leaf.ExactEmpty g) = omega arith

used_few : (all : List Leaf) → length (flat_map leaf_tables all) ≤ length all
used_few [] = omega arith
used_few (leaf ∷ others) = omega (arith, length-append (leaf_tables leaf) (flat_map leaf_tables others), leaf_few leaf, used_few others)

-- and each table stands once
once_few : (numbers : List ℕ) → length (each_once numbers) ≤ length numbers
once_few [] = omega arith
once_few (number ∷ numbers) =
    let others = λ (other : ℕ). not (other == number) in
    omega (arith, length-filter others (each_once numbers), count_by-le-length others (each_once numbers), once_few numbers)

tables_few : (found : Found) → 2 * length (written_tables found) ≤ suc (node_count found.tree.nodes)
tables_few found = grind (arith, length-map, once_few, used_few, leaves_counted)

nodes_counted : (claim : Leaf → cover.Leaf) (tree : NumberedTree) → length (preorder (map_leaves claim (unnumbered tree))) ≡ node_count tree
nodes_counted claim (EndAt number leaf) = omega arith
nodes_counted claim (SplitAt number g t off on) =
    grind (arith, length-append, number, g, t, off, on, (nodes_counted claim off), (nodes_counted claim on))

pub found_little : (instance : Instance) (found : Found) → node_count found.tree.nodes ≤ 2000001
    → All (λ (table : Table). length table.ramps ≤ most_rows) (written_tables found) → IsLittle (listing_of (certificate_of instance found))
found_little instance found few rows = grind (arith, tables_few, nodes_counted, few, rows)
