-- What the checks of leaves keep for one another, and the tests of a leaf's numbers. This project's own.
use Rattle.std.specs.Prelude.{◌≡◌, ℕ, ◌<◌, ◌⊎◌, ◌↔◌, Bool, ℤ, pos, ◌*ℤ◌, ◌≤ℤ◌, ◌<ℤ◌, Option, Some, None, List, IsTrue, slice_get, length}
use Rattle.uc_model.specs.Prelude.{thermal_count}
use Rattle.uc_model.specs.declared.instance.Instance.{Instance}
use Rattle.dual_model.specs.Prelude.{HasBoundOf, HasPositiveValue, HasBlockedUnit}
use Rattle.dual_model.specs.declared.node.Node.{Node}
pub use Rattle.dual_model.specs.declared.table.Table.{Table}
use Rattle.leaf_values.specs.Entries.{AreEntriesOf}
use Rattle.leaf_values.specs.ExactRooms.{IsRoomOf}
use Rattle.leaf_values.specs.Reached.{HasValueFrom, least_value}
use Rattle.leaf_values.specs.declared.least.Least.{Least}
pub use Rattle.cert_text.specs.declared.cert.CertNode.{CertNode}
use Rattle.cert_text.specs.declared.cert.CertNode.TheVariants as nodes
pub use Rattle.cert_check.specs.declared.leaf.Claim.{Claim}
use Rattle.cert_check.specs.declared.leaf.Claim.TheVariants as claims
use Rattle.cert_check.specs.declared.leaf.Leaves.{Leaves}
pub use Rattle.cert_check.specs.declared.leaf.Loaded.{Loaded}
pub use Rattle.cert_check.specs.declared.leaf.Question.{Question}

-- a leaf, whose table or unit is there
abbrev pub IsLeafNode : ℕ → ℕ → CertNode → Type 0
IsLeafNode units tables (nodes.Split g t) = ⊥
IsLeafNode units tables (nodes.Bound table) = table < tables
IsLeafNode units tables (nodes.Ray table) = table < tables
IsLeafNode units tables (nodes.Empty g) = g < units
IsLeafNode units tables (nodes.Exact table) = table < tables
IsLeafNode units tables (nodes.ExactRay table) = table < tables
IsLeafNode units tables (nodes.ExactEmpty g) = g < units

-- the table is that of the number, and the entries are its
pub record IsLoadedOf (instance : Instance) (tables : List Table) (loaded : Loaded) : Type 0 where
  pub is : slice_get tables loaded.number ≡ Some loaded.table
  pub entries : AreEntriesOf instance loaded.table loaded.entries

abbrev pub IsLoaded : Instance → List Table → Option Loaded → Type 0
IsLoaded instance tables None = Unit {0}
IsLoaded instance tables (Some loaded) = IsLoadedOf instance tables loaded

-- and this is the number
pub record IsLoadedAt (instance : Instance) (tables : List Table) (number : ℕ) (loaded : Loaded) : Type 0 where
  pub of_number : IsLoadedOf instance tables loaded
  pub number_is : loaded.number ≡ number

-- room for the walks, exact ones too, and for what a path decides of each unit
pub record HasRoom (instance : Instance) (leaves : Leaves) : Type 0 where
  pub walk : leaves.walk ≡ instance.periods
  pub exact : IsRoomOf instance leaves.exact
  pub fixes : length leaves.fixes.items ≡ thermal_count instance

-- that, and the entries of the table that was loaded last
pub record IsReady (instance : Instance) (tables : List Table) (leaves : Leaves) : Type 0 where
  pub room : HasRoom instance leaves
  pub loaded : IsLoaded instance tables leaves.loaded

-- nothing but the memory of walks is changed
pub record IsSameBut (old new : Leaves) : Type 0 where
  pub fixes : new.fixes ≡ old.fixes
  pub loaded : new.loaded ≡ old.loaded

-- the value of the node, of the kind, is the least one or more, or some unit is blocked
abbrev pub Reaches : Bool → Instance → Node → Table → ℤ → Type 0
Reaches exact instance node table least = HasValueFrom exact instance node table least ⊎ HasBlockedUnit exact instance node

-- that by a value that may be there
abbrev pub IsEnough : ℤ → Option ℤ → Type 0
IsEnough least None = Unit {0}
IsEnough least (Some value) = least ≤ℤ value

-- tables of this scale can be what is claimed
abbrev pub FitsScale : ℤ → Claim → Type 0
FitsScale k (claims.Bound b) = pos 0 <ℤ k
FitsScale k claims.Ray = k ≡ pos 0

-- they are where the value is this or more
abbrev pub least_of : ℤ → Claim → ℤ
least_of k (claims.Bound b) = b *ℤ k
least_of k claims.Ray = pos 1

pub record IsLeastFor (k : ℤ) (claim : Claim) (least : Least) : Type 0 where
  pub fits : FitsScale k claim
  pub scale : pos 0 <ℤ least.scale
  pub value : least_value least ≡ least_of k claim

-- the table says so of the node by its value of the kind
abbrev pub Says : Bool → Claim → Instance → Node → Table → Type 0
Says exact (claims.Bound b) instance node table = HasBoundOf exact instance node table b ⊎ HasBlockedUnit exact instance node
Says exact claims.Ray instance node table = HasPositiveValue exact instance node table ⊎ HasBlockedUnit exact instance node

pub record Holds (question : Question) (instance : Instance) (node : Node) (table : Table) : Type 0 where
  pub fits : FitsScale table.k question.claim
  pub says : Says question.exact question.claim instance node table

-- the answer says whether it holds at the table of that number
pub record IsHoldingAt (question : Question) (instance : Instance) (tables : List Table) (node : Node) (number : ℕ) (told : Bool) : Type 0 where
  pub table : Table
  pub is_table : slice_get tables number ≡ Some table
  pub holds : IsTrue told ↔ Holds question instance node table
