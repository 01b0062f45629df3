-- How a certificate is written: its lines in their order, one spelling for each certificate in each version. This project's own
-- format.
-- Units, periods and tables count from 0 here, and from 1 in the text.
use Rattle.std.specs.Prelude.{ℕ, suc, ◌<◌, nat_lt, ◌==◌, Bool, true, false, not, ◌||◌, List, [], ◌∷◌, ◌++◌, codes, ℤ, Option, Some, None, length, map, if◌then◌else◌}
use Rattle.std.specs.List.{list_any}
use Rattle.uc_model.specs.Decimal.{whole_text, signed_text}
use Rattle.uc_model.specs.Money.{money_text}
pub use Rattle.uc_model.specs.declared.schedule.Cell.{Cell}
pub use Rattle.uc_model.specs.declared.schedule.Printed.{Printed}
use Rattle.dual_model.specs.Prelude.{Tree, Ends, Splits, Leaf, Bound, Ray, Empty, Certificate, WrittenSchedule}
pub use Rattle.dual_model.specs.declared.table.Table.{Table}
pub use Rattle.dual_model.specs.declared.table.RampRow.{RampRow}
use Rattle.outside.specs.Lines.{line, joined, list_line}
use Rattle.table_list.specs.Changes.{Change, OfDemand, OfReserve, OfRamps, table_changes}
pub use Rattle.cert_text.specs.declared.cert.Version.{Version}
pub use Rattle.cert_text.specs.declared.cert.Version.TheVariants.{First, Second, Third}

-- ---- the tree, as the list of its nodes in preorder, a line for each
-- a leaf, or a split on a unit and a period
pub data TreeNode : Type 0 where
  LeafNode : Leaf → TreeNode
  SplitNode : ℕ → ℕ → TreeNode

-- a split before the nodes of its off-child, and these before those of its on-child
abbrev pub preorder : Tree Leaf → List TreeNode
preorder (Ends leaf) = LeafNode leaf ∷ []
preorder (Splits g t off on) = SplitNode g t ∷ (preorder off ++ preorder on)

-- a leaf by V, or by the exact value VE, names its table or its unit
abbrev pub leaf_line : Leaf → List ℕ
leaf_line (Bound false number) = line (codes "bound") (whole_text (suc number) ∷ [])
leaf_line (Ray false number) = line (codes "ray") (whole_text (suc number) ∷ [])
leaf_line (Empty false g) = line (codes "empty") (whole_text (suc g) ∷ [])
leaf_line (Bound true number) = line (codes "exact") (whole_text (suc number) ∷ [])
leaf_line (Ray true number) = line (codes "exact-ray") (whole_text (suc number) ∷ [])
leaf_line (Empty true g) = line (codes "exact-empty") (whole_text (suc g) ∷ [])

abbrev pub node_line : TreeNode → List ℕ
node_line (LeafNode leaf) = leaf_line leaf
node_line (SplitNode g t) = line (codes "split") (whole_text (suc g) ∷ whole_text (suc t) ∷ [])

-- a leaf names a table, or a thermal unit, that there is
abbrev pub IsLeafWithin : ℕ → ℕ → Leaf → Type 0
IsLeafWithin thermal tables (Bound exact number) = number < tables
IsLeafWithin thermal tables (Ray exact number) = number < tables
IsLeafWithin thermal tables (Empty exact g) = g < thermal

-- and a split a thermal unit and a period
abbrev pub IsNodeWithin : ℕ → ℕ → ℕ → TreeNode → Type 0
IsNodeWithin periods thermal tables (LeafNode leaf) = IsLeafWithin thermal tables leaf
IsNodeWithin periods thermal tables (SplitNode g t) = (g < thermal) × (t < periods)

-- ---- the whole certificate
-- what a certificate says, with its tree as the nodes in preorder
pub record Listing : Type 0 where
  pub periods : ℕ
  pub thermal : ℕ
  pub renewable : ℕ
  -- the prices of unserved demand and of missing reserve
  pub a : ℕ
  pub b : ℕ
  pub bound : Option ℤ
  pub schedule : Option WrittenSchedule
  pub tables : List Table
  pub nodes : List TreeNode

abbrev pub listing_of : Certificate → Listing
listing_of c = record {
  periods = c.periods;
  thermal = c.thermal;
  renewable = c.renewable;
  a = c.a;
  b = c.b;
  bound = c.bound;
  schedule = c.schedule;
  tables = c.tables;
  nodes = preorder c.tree;
}

-- the versions of the format: in the first each table is told whole, in the others each but the first one by its difference to the
-- one before it; and leaves by exact values, and denominators, stand in the third alone
abbrev pub version_number : Version → ℕ
version_number First = 1
version_number Second = 2
version_number Third = 3

-- the leaf claims by exact values
abbrev pub is_exact_leaf : Leaf → Bool
is_exact_leaf (Bound exact number) = exact
is_exact_leaf (Ray exact number) = exact
is_exact_leaf (Empty exact g) = exact

abbrev pub is_exact_node : TreeNode → Bool
is_exact_node (LeafNode leaf) = is_exact_leaf leaf
is_exact_node (SplitNode g t) = false

abbrev pub version_line : Version → List ℕ
version_line version = line (codes "uc-certificate") (whole_text (version_number version) ∷ [])

-- the numbers of periods, of thermal and renewable units, and of tables
abbrev pub size_line : ℕ → ℕ → ℕ → ℕ → List ℕ
size_line periods thermal renewable tables =
    line (codes "size") (whole_text periods ∷ whole_text thermal ∷ whole_text renewable ∷ whole_text tables ∷ [])

abbrev pub claim_line : Option ℤ → List ℕ
claim_line (Some bound) = line (codes "claim bound") (money_text bound ∷ [])
claim_line None = line (codes "claim infeasible") []

-- unserved demand, or missing reserve, has a price
abbrev pub has_price : ℕ → ℕ → Bool
has_price a b = nat_lt 0 a || nat_lt 0 b

-- the prices of both, of which one may be 0
abbrev pub penalty_line : ℕ → ℕ → List ℕ
penalty_line a b = line (codes "penalty") (whole_text a ∷ whole_text b ∷ [])

-- a cell: `-`, or output above the minimum, reserve and start category
abbrev pub cell_text : Cell → List ℕ
cell_text cell =
    if cell.on then joined (signed_text cell.p ∷ codes ":" ∷ signed_text cell.r ∷ codes ":" ∷ whole_text cell.category ∷ [])
    else codes "-"

abbrev pub thermal_line : List Cell → List ℕ
thermal_line row = list_line (codes "t") cell_text row

abbrev pub renewable_line : List ℤ → List ℕ
renewable_line row = list_line (codes "w") signed_text row

-- what is missing in each period: demand, and reserve
abbrev pub shed_line : List ℤ → List ℕ
shed_line row = list_line (codes "d") signed_text row

abbrev pub short_line : List ℤ → List ℕ
short_line row = list_line (codes "e") signed_text row

abbrev pub shortage_lines : Bool → Printed → List (List ℕ)
shortage_lines false printed = []
shortage_lines true printed = shed_line printed.shed ∷ short_line printed.short ∷ []

-- the denominator of a schedule's powers, where they aren't whole
abbrev pub over_words : ℕ → List (List ℕ)
over_words denominator = if denominator == 1 then [] else codes "over" ∷ whole_text denominator ∷ []

abbrev pub cost_line : ℤ → ℕ → List ℕ
cost_line cost denominator = line (codes "schedule") (money_text cost ∷ over_words denominator)

abbrev pub no_schedule_line : List ℕ
no_schedule_line = line (codes "schedule none") []

-- a schedule tells what is missing exactly where that has a price
abbrev pub schedule_lines : Bool → Option WrittenSchedule → List (List ℕ)
schedule_lines priced None = no_schedule_line ∷ []
schedule_lines priced (Some written) =
    cost_line written.cost written.printed.denominator ∷ (map thermal_line written.printed.thermal
    ++ (map renewable_line written.printed.renewable ++ shortage_lines priced written.printed))

-- where something has a price, the line of the prices comes before the schedule
abbrev pub plan_lines : ℕ → ℕ → Option WrittenSchedule → List (List ℕ)
plan_lines a b schedule =
    if has_price a b then penalty_line a b ∷ schedule_lines true schedule else schedule_lines false schedule

abbrev pub scale_line : ℤ → List ℕ
scale_line k = line (codes "table") (signed_text k ∷ [])

abbrev pub prices_line : List ℕ → List ℤ → List ℕ
prices_line first prices = list_line first signed_text prices

abbrev pub ramps_line : List RampRow → List ℕ
ramps_line rows = line (codes "ramps") (whole_text (length rows) ∷ [])

abbrev pub ramp_line : RampRow → List ℕ
ramp_line row =
    line (codes "ramp") (whole_text (suc row.g) ∷ whole_text (suc row.t) ∷ signed_text row.up ∷ signed_text row.down ∷ [])

abbrev pub table_lines : Table → List (List ℕ)
table_lines table =
    scale_line table.k ∷ prices_line (codes "pi") table.pi ∷ prices_line (codes "mu") table.mu ∷ ramps_line table.ramps
    ∷ map ramp_line table.ramps

-- the scale of a table that is told by its difference to the one before it, and how many changes follow
abbrev pub next_line : ℤ → ℕ → List ℕ
next_line k changes = line (codes "next") (signed_text k ∷ whole_text changes ∷ [])

abbrev pub change_line : Change → List ℕ
change_line (OfDemand t price) = line (codes "p") (whole_text (suc t) ∷ signed_text price ∷ [])
change_line (OfReserve t price) = line (codes "m") (whole_text (suc t) ∷ signed_text price ∷ [])
change_line (OfRamps row) =
    line (codes "r") (whole_text (suc row.g) ∷ whole_text (suc row.t) ∷ signed_text row.up ∷ signed_text row.down ∷ [])

abbrev pub next_lines : ℤ → List Change → List (List ℕ)
next_lines k changes = next_line k (length changes) ∷ map change_line changes

-- the table of whose numbers the next one tells the changes, where it is told so: the one before it
abbrev pub told_from : Version → Option Table → Option Table
told_from First before = None
told_from Second before = before
told_from Third before = before

abbrev pub told_lines : Option Table → Table → List (List ℕ)
told_lines None table = table_lines table
told_lines (Some before) table = next_lines table.k (table_changes before table)

-- tables behind one, or from the first on
abbrev pub tables_lines : Version → Option Table → List Table → List (List ℕ)
tables_lines version before [] = []
tables_lines version before (table ∷ tables) = told_lines (told_from version before) table ++ tables_lines version (Some table) tables

abbrev pub end_line : List ℕ
end_line = line (codes "end") []

-- the lines in this version of the format
unfoldable pub certificate_lines : Version → Listing → List (List ℕ)
certificate_lines version c =
    version_line version ∷ size_line c.periods c.thermal c.renewable (length c.tables) ∷ claim_line c.bound
    ∷ (plan_lines c.a c.b c.schedule ++ (tables_lines version None c.tables ++ (map node_line c.nodes ++ end_line ∷ [])))

-- the text is these lines one after another
unfoldable pub certificate_text : Version → Certificate → List ℕ
certificate_text version c = joined (certificate_lines version (listing_of c))

-- a schedule has powers that aren't whole
abbrev pub is_divided : Option WrittenSchedule → Bool
is_divided None = false
is_divided (Some written) = not (written.printed.denominator == 1)

-- the version in which a certificate is written: the third exactly where a leaf claims by exact values, or a schedule has powers that
-- aren't whole, and else the second
abbrev pub written_version : Listing → Version
written_version c = if list_any is_exact_node c.nodes || is_divided c.schedule then Third else Second

-- and its text
abbrev pub written_text : Certificate → List ℕ
written_text c = certificate_text (written_version (listing_of c)) c
