-- Nodes of the branch tree: which commitments and schedules agree with the decisions on a node's path, and
-- the patterns of a unit that are left there. Source: branch and bound on the commitment variables of the
-- reference model by Knueven, Ostrowski and Watson.
--
-- Units and periods count from 0 here.
use Rattle.std.specs.Prelude.{◌≡◌, ℕ, ◌<◌, Bool, not, ◌||◌, ◌==◌, IsTrue, All, if◌then◌else◌}
use Rattle.std.specs.List.{list_all}
use Rattle.uc_model.specs.Prelude.{all_below, Commitment, is_allowed, commitment_of, Schedule, thermal_unit, thermal_count}
pub use Rattle.uc_model.specs.declared.instance.Instance.{Instance}
pub use Rattle.dual_model.specs.declared.node.Fix.{Fix}
pub use Rattle.dual_model.specs.declared.node.Fixing.{Fixing}
pub use Rattle.dual_model.specs.declared.node.Node.{Node}

-- the commitment of the fixing's unit is as the fixing says
abbrev pub keeps : Fixing → Commitment → Bool
keeps fixing on = if fixing.on then on fixing.t else not (on fixing.t)

-- the same, where the fixing speaks of unit g
abbrev pub keeps_of : ℕ → Commitment → Fixing → Bool
keeps_of g on fixing = not (fixing.g == g) || keeps fixing on

-- the commitment of unit g agrees with the node; with two bits for one cell none does
abbrev pub unit_agrees : Node → ℕ → Commitment → Bool
unit_agrees node g on = list_all (keeps_of g on) node.fixings

-- the schedule agrees with the node
abbrev pub agrees : Node → Schedule → Bool
agrees node x = list_all (λ fixing. keeps fixing (x.thermal fixing.g).on) node.fixings

-- a pattern of unit g at the node: one that is allowed and agrees
pub record IsPatternAt (instance : Instance) (node : Node) (g : ℕ) (on : Commitment) : Type 0 where
  pub allowed : IsTrue (is_allowed instance.periods (thermal_unit instance g) on)
  pub agrees : IsTrue (unit_agrees node g on)

-- unit g has no pattern at the node
abbrev pub HasNoPattern : Instance → Node → ℕ → Type 0
HasNoPattern instance node g = (on : Commitment) → ¬ IsPatternAt instance node g on

-- unit g is the first of the instance that has no pattern at the node
pub record IsFirstEmpty (instance : Instance) (node : Node) (g : ℕ) : Type 0 where
  pub within : g < thermal_count instance
  pub empty : HasNoPattern instance node g
  pub first : (earlier : ℕ) → earlier < g → ¬ HasNoPattern instance node earlier

-- some unit of the instance has no pattern at the node
pub record HasEmptyUnit (instance : Instance) (node : Node) : Type 0 where
  pub unit : ℕ
  pub within : unit < thermal_count instance
  pub empty : HasNoPattern instance node unit

-- a pattern agrees with what is decided of its unit
abbrev pub fix_agrees : ℕ → Fix → Commitment → Bool
fix_agrees periods fix on =
    all_below periods (λ t. not (commitment_of fix.known t) || (if commitment_of fix.on t then on t else not (on t)))

-- the fix says what the node decides of unit g: the same commitments agree with both. A node with two bits
-- for one cell of the unit has none
pub record IsFixOf (periods : ℕ) (node : Node) (g : ℕ) (fix : Fix) : Type 0 where
  pub same : (on : Commitment) → unit_agrees node g on ≡ fix_agrees periods fix on

-- a decision on a cell of the instance
pub record IsCell (instance : Instance) (g t : ℕ) : Type 0 where
  pub unit : g < thermal_count instance
  pub period : t < instance.periods

-- a node of the instance's size
abbrev pub IsNodeOf : Instance → Node → Type 0
IsNodeOf instance node = All (λ fixing. IsCell instance fixing.g fixing.t) node.fixings
