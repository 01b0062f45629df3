-- What an evaluation answers: the value of a node at a table, with the part of each thermal unit and a pattern that
-- attains the unit's value. Source: the Lagrangian dual function of the reference model by Knueven, Ostrowski and
-- Watson, whose subgradients such patterns give.
use Rattle.std.specs.Prelude.{◌≡◌, ℕ, ◌*◌, ◌^◌, ◌<◌, ◌≤◌, ℤ, pos, unsigned_abs, length, slice_index_or}
use Rattle.uc_model.specs.Prelude.{commitment_of, thermal_count}
use Rattle.uc_model.specs.declared.limits.TheConstants.{MAX_UNITS}
use Rattle.uc_model.specs.declared.pattern.Pattern.{Pattern}
use Rattle.dual_model.specs.NodeValue.{Instance, Node, Table, IsNodeValue, unit_part}
use Rattle.dual_model.specs.UnitValue.{IsBestPattern}
use Rattle.dual_model.specs.declared.valued.Valued.{Valued}

-- what unit g adds, and a pattern that attains its value
pub record IsPartOf (instance : Instance) (node : Node) (table : Table) (g : ℕ) (part : ℤ) (pattern : Pattern) : Type 0 where
  pub value : ℤ
  pub best : IsBestPattern instance node table g (commitment_of pattern) value
  pub is : part ≡ unit_part instance table g value

-- a unit's part is at most this in size, and the value of a node this
abbrev pub MAX_PART : ℕ
MAX_PART = 2 * 10 ^ 32

abbrev pub MAX_VALUE : ℕ
MAX_VALUE = 2 * MAX_UNITS * MAX_PART

-- the value of the node, with the part and a pattern of each unit
pub record IsValued (instance : Instance) (node : Node) (table : Table) (valued : Valued) : Type 0 where
  pub total : IsNodeValue instance node table valued.total
  pub size : unsigned_abs valued.total ≤ MAX_VALUE
  pub parts : length valued.parts ≡ thermal_count instance
  pub patterns : length valued.patterns ≡ thermal_count instance
  pub part : (g : ℕ) → g < thermal_count instance →
      IsPartOf instance node table g (slice_index_or valued.parts g (pos 0))
      (slice_index_or valued.patterns g (record { low = 0; high = 0 }))
