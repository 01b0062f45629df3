-- When what a search found is true: a tree that holds, a schedule that obeys, and a true log. This project's own statement.
use Rattle.std.specs.Prelude.{◌≡◌, ◌≢◌, Bool, List, Some, All, AllPairs, slice_get}
use Rattle.uc_model.specs.declared.instance.Instance.{Instance}
use Rattle.dual_model.specs.Prelude.{IsLawfulTable, IsValueOf, IsFirstBlocked, CertificateHolds}
use Rattle.dual_model.specs.declared.node.Node.{Node}
use Rattle.branch_tree.specs.declared.found.Entry.{Entry}
use Rattle.branch_tree.specs.declared.found.Outcome.{Outcome}
use Rattle.branch_tree.specs.declared.found.Outcome.TheVariants.{Value, Empty}
use Rattle.branch_tree.specs.StoredTree.{IsNodeAt}
use Rattle.branch_tree.specs.Claims.{Found, Table, Tree, HasLayout, certificate_of}

-- the outcome is that of the node at the table, by values of the kind
abbrev pub IsOutcome : Bool → Instance → Node → Table → Outcome → Type 0
IsOutcome exact instance node table (Value v) = IsValueOf exact instance node table v
IsOutcome exact instance node table (Empty g) = IsFirstBlocked exact instance node g

-- an entry of the log is true: its table is lawful, and its outcome is that of its node there
pub record IsTrueEntry (instance : Instance) (tree : Tree) (tables : List Table) (entry : Entry) : Type 0 where
  pub node : Node
  pub is_node : IsNodeAt tree entry.node node
  pub table : Table
  pub is_table : slice_get tables entry.table ≡ Some table
  pub lawful : IsLawfulTable instance table
  pub outcome : IsOutcome entry.exact instance node table entry.outcome

-- two entries have different claims, and differ in the node, in the kind or in the table, under whichever numbers it stands
pub record AreApart (tables : List Table) (first second : Entry) : Type 0 where
  pub unit : first.unit ≢ second.unit
  pub pair : first.node ≡ second.node → first.exact ≡ second.exact → slice_get tables first.table ≢ slice_get tables second.table

-- each entry of the log is true, and no two share a claim, or a node, a table and a kind
pub record IsTrueLog (instance : Instance) (tree : Tree) (tables : List Table) (log : List Entry) : Type 0 where
  pub entries : All (IsTrueEntry instance tree tables) log
  pub apart : AllPairs (AreApart tables) log

-- what was found is true: it stands for a certificate that holds, and its log is true
pub record IsTrueFound (instance : Instance) (found : Found) : Type 0 where
  pub layout : HasLayout found
  pub certificate : CertificateHolds instance (certificate_of instance found)
  pub log : IsTrueLog instance found.tree found.tables found.log
