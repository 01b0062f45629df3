-- The text of a certificate, in the version in which it is written, in the parts in which it is.
use Rattle.std.specs.Prelude.{ℕ, Bool, true, false, List, [], ◌∷◌, ◌++◌, ℤ, Option, Some, None, length, flat_map, codes, if◌then◌else◌}
use Rattle.std.specs.Ordering.{int_eq}
pub use Rattle.uc_model.specs.declared.instance.Instance.{Instance}
use Rattle.dual_model.specs.Prelude.{WrittenSchedule, map_leaves}
pub use Rattle.branch_tree.specs.declared.found.Found.{Found}
use Rattle.branch_tree.specs.Prelude.{tree_of, used_tables, leaf_claim, certificate_of}
pub use Rattle.branch_tree.specs.declared.tree.Spot.{Spot}
use Rattle.branch_tree.specs.declared.tree.Spot.TheVariants as spot
use Rattle.branch_tree.specs.declared.tree.Tree.{Tree}
use Rattle.outside.specs.Lines.{joined}
use Rattle.table_list.specs.Changes.{Change, OfDemand, OfReserve, OfRamps, price_changes, row_changes, table_changes}
use Rattle.cert_text.specs.CertificateText.{TreeNode, LeafNode, SplitNode, Listing, listing_of, preorder, node_line, written_version, Table, RampRow, Printed, version_line, size_line, claim_line, has_price, penalty_line, shed_line, short_line, cost_line, no_schedule_line, thermal_line, renewable_line, scale_line, prices_line, ramps_line, ramp_line, next_line, change_line, end_line}
use Rattle.cert_text.specs.Reading.{listing_read}
pub use Rattle.cert_text.specs.declared.cert.Cert.{Cert}

abbrev pub penalty_part : ℕ → ℕ → List ℕ
penalty_part a b = if has_price a b then penalty_line a b else []

abbrev pub shortages_part : Bool → Printed → List ℕ
shortages_part false printed = []
shortages_part true printed = joined (shed_line printed.shed ∷ short_line printed.short ∷ [])

abbrev pub schedule_part : Bool → Option WrittenSchedule → List ℕ
schedule_part priced None = no_schedule_line
schedule_part priced (Some written) =
    joined (cost_line written.cost written.printed.denominator ∷ flat_map thermal_line written.printed.thermal
    ∷ flat_map renewable_line written.printed.renewable ∷ shortages_part priced written.printed ∷ [])

-- ---- tables
abbrev pub table_part : Table → List ℕ
table_part table =
    joined (scale_line table.k ∷ prices_line (codes "pi") table.pi ∷ prices_line (codes "mu") table.mu ∷ ramps_line table.ramps
    ∷ flat_map ramp_line table.ramps ∷ [])

-- the line of the price in period t, where it is another than before; and how many lines that are
abbrev pub price_part : (ℕ → ℤ → Change) → ℕ → ℤ → ℤ → List ℕ
price_part change t old new = if int_eq old new then [] else change_line (change t new)

abbrev pub told_count : ℤ → ℤ → ℕ
told_count old new = if int_eq old new then 0 else 1

abbrev pub row_line : RampRow → List ℕ
row_line row = change_line (OfRamps row)

-- a table behind that one
abbrev pub next_part : Table → Table → List ℕ
next_part before table =
    joined (next_line table.k (length (table_changes before table)) ∷ flat_map change_line (price_changes OfDemand 0 before.pi table.pi)
    ∷ flat_map change_line (price_changes OfReserve 0 before.mu table.mu) ∷ flat_map row_line (row_changes before.ramps table.ramps) ∷ [])

-- the same by its changes
abbrev pub changes_part : ℤ → List Change → List ℕ
changes_part k changes = next_line k (length changes) ++ flat_map change_line changes

abbrev pub told_part : Option Table → Table → List ℕ
told_part None table = table_part table
told_part (Some before) table = next_part before table

-- tables behind one, or from the first on
abbrev pub tables_part : Option Table → List Table → List ℕ
tables_part before [] = []
tables_part before (table ∷ tables) = told_part before table ++ tables_part (Some table) tables

-- ---- the tree
-- what stands at a node, as it is written where these tables are used
abbrev pub spot_node : List ℕ → Spot → TreeNode
spot_node used (spot.Inner g t off on) = SplitNode g t
spot_node used (spot.Leaf leaf) = LeafNode (leaf_claim used leaf)

-- the tree's nodes in preorder, where its tables are those used
abbrev pub tree_nodes : Tree → List TreeNode
tree_nodes tree = preorder (map_leaves (leaf_claim (used_tables (tree_of tree))) (tree_of tree))

abbrev pub tree_part : Tree → List ℕ
tree_part tree = flat_map node_line (tree_nodes tree)

-- ---- the whole
abbrev pub heading_part : Listing → List ℕ
heading_part c =
    joined (version_line (written_version c) ∷ size_line c.periods c.thermal c.renewable (length c.tables) ∷ claim_line c.bound ∷ [])

unfoldable pub certificate_parts : Listing → List ℕ
certificate_parts c =
    joined (heading_part c ∷ penalty_part c.a c.b ∷ schedule_part (has_price c.a c.b) c.schedule ∷ tables_part None c.tables
    ∷ flat_map node_line c.nodes ∷ end_line ∷ [])

-- of what was found, and of what was read
unfoldable pub found_text : Instance → Found → List ℕ
found_text instance found = certificate_parts (listing_of (certificate_of instance found))

unfoldable pub read_text : Cert → List ℕ
read_text cert = certificate_parts (listing_read cert)
