-- What the log keeps beside its entries, so that no call walks over all of them: of each node its newest entry, and of each entry the
-- one before it of the same node. This project's own form. A link is one more than a place, or 0 where there is no entry.
use Rattle.std.specs.Prelude.{◌≡◌, ◌≢◌, ℕ, suc, ◌<◌, ◌≤◌, Bool, List, ℤ, pos, ◌≤ℤ◌, Some, length, slice_get, slice_set, slice_index_or}
use Rattle.std.specs.Int.{int_max}
pub use Rattle.branch_tree.specs.declared.found.Entry.{Entry}
pub use Rattle.dual_model.specs.declared.table.Table.{Table}
use Rattle.search_machine.specs.Prelude.{entries_of}
pub use Rattle.search_machine.specs.Prelude.{IsElsewhere}

-- what contracts see of the log: its entries, for how many there is room, for how many nodes, and of each node the greatest scale
pub record LogView : Type 0 where
  pub entries : List Entry
  pub room : ℕ
  pub nodes : ℕ
  pub greatest : List ℤ

-- of the entries before a place the link leads to the node's last one
pub record IsNewest (entries : List Entry) (bound node link : ℕ) : Type 0 where
  pub within : link ≤ bound
  pub own : (place : ℕ) (entry : Entry) → link ≡ suc place → slice_get entries place ≡ Some entry → entry.node ≡ node
  pub others : (place : ℕ) (entry : Entry) → link ≤ place → place < bound → slice_get entries place ≡ Some entry → entry.node ≢ node

pub record AreLinked (entries : List Entry) (previous newest counts : List ℕ) : Type 0 where
  pub linked : length previous ≡ length entries
  pub counted : length counts ≡ length newest
  pub within : (place : ℕ) (entry : Entry) → slice_get entries place ≡ Some entry → entry.node < length newest
  pub latest : (node link : ℕ) → slice_get newest node ≡ Some link → IsNewest entries (length entries) node link
  pub earlier : (place link : ℕ) (entry : Entry) → slice_get previous place ≡ Some link → slice_get entries place ≡ Some entry
      → IsNewest entries place entry.node link
  pub many : (node count : ℕ) → slice_get counts node ≡ Some count → count ≡ length (entries_of entries node)

-- so far back no entry of the node is at the table, and the link leads to the next one
pub record IsWalked (entries : List Entry) (tables : List Table) (table : Table) (exact : Bool) (node link : ℕ) : Type 0 where
  pub within : link ≤ length entries
  pub own : (place : ℕ) (entry : Entry) → link ≡ suc place → slice_get entries place ≡ Some entry → entry.node ≡ node
  pub clear : (place : ℕ) (entry : Entry) → link ≤ place → slice_get entries place ≡ Some entry → entry.node ≡ node
      → IsElsewhere tables table exact entry

-- ---- scales
-- the greatest scales where the node has another entry of this scale
abbrev pub raised : List ℤ → ℕ → ℤ → List ℤ
raised greatest node scale = slice_set greatest node (int_max (slice_index_or greatest node (pos 0)) scale)

-- the table of an entry is there, and its scale isn't above the greatest of the entry's node
pub record IsScaleNoted (tables : List Table) (greatest : List ℤ) (entry : Entry) : Type 0 where
  pub table : Table
  pub is : slice_get tables entry.table ≡ Some table
  pub most : table.k ≤ℤ slice_index_or greatest entry.node (pos 0)
