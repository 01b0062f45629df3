-- What the path to a node decides of each unit. Source: branch and bound on the commitment variables of the reference
-- model by Knueven, Ostrowski and Watson.
--
-- Units and periods count from 0 here.
use Rattle.std.specs.Prelude.{◌≡◌, ℕ, ◌<◌, false, not, List, IsTrue, length, take, slice_index_or}
use Rattle.uc_model.specs.Prelude.{commitment_of, thermal_count}
use Rattle.uc_model.specs.declared.limits.TheConstants.{MAX_PERIODS}
pub use Rattle.uc_model.specs.declared.instance.Instance.{Instance}
use Rattle.dual_model.specs.Prelude.{IsFixOf, is_decided}
pub use Rattle.dual_model.specs.declared.node.Fix.{Fix}
pub use Rattle.dual_model.specs.declared.node.Fixing.{Fixing}
pub use Rattle.dual_model.specs.declared.node.Node.{Node}

-- the node that a path leads to
abbrev pub node_of : List Fixing → Node
node_of path = record { fixings = path }

-- a decision on one of these units, in a period that a pattern has room for
pub record IsPlaced (units : ℕ) (fixing : Fixing) : Type 0 where
  pub unit : fixing.g < units
  pub period : fixing.t < MAX_PERIODS

-- each decision of the path is on a cell that those before it haven't decided
pub record DecidesOnce (path : List Fixing) : Type 0 where
  pub fresh : (i : ℕ) (d : Fixing) → i < length path →
      let fixing = slice_index_or path i d in
      IsTrue (not (is_decided (node_of (take i path)) fixing.g fixing.t))

-- nothing is decided
pub record IsUndecided (fix : Fix) : Type 0 where
  pub known : (t : ℕ) → commitment_of fix.known t ≡ false
  pub on : (t : ℕ) → commitment_of fix.on t ≡ false

-- what is decided of unit g
abbrev pub fix_at : List Fix → ℕ → Fix
fix_at fixes g = slice_index_or fixes g (record { known = record { low = 0; high = 0 }; on = record { low = 0; high = 0 } })

-- what the node decides of each unit of the instance
pub record AreFixesOf (instance : Instance) (node : Node) (fixes : List Fix) : Type 0 where
  pub count : length fixes ≡ thermal_count instance
  pub fix : (g : ℕ) → g < thermal_count instance → IsFixOf instance.periods node g (fix_at fixes g)
