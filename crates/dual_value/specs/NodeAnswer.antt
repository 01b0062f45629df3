-- What an evaluation answers: the value of a node at a table, or the first unit without a pattern. Source: the Lagrangian
-- dual function of the reference model by Knueven, Ostrowski and Watson.
pub use Rattle.dual_model.specs.Prelude.{IsPartOf, IsValued, MAX_PART, MAX_VALUE}
use Rattle.std.specs.Prelude.{◌≡◌, ℕ, ⊤, ◌+◌, ◌<◌, ◌≤◌, ◌⊎◌, Bool, true, false, ℤ, pos, ◌-ℤ◌, unsigned_abs, length, slice_index_or, All}
use Rattle.uc_model.specs.Prelude.{sum_below, commitment_of, thermal_count, thermal_unit}
pub use Rattle.uc_model.specs.declared.instance.Instance.{Instance}
use Rattle.uc_model.specs.declared.pattern.Pattern.{Pattern}
use Rattle.dual_model.specs.Prelude.{IsExactNodeValue, IsExactUnitValue, exact_part, IsPatternAt, IsUnitValue, IsBlocked, IsFirstBlocked}
use Rattle.dual_model.specs.declared.table.Table.{Table}
use Rattle.dual_model.specs.declared.node.Node.{Node}
use Rattle.dual_model.specs.declared.valued.Valued.{Valued}
pub use Rattle.dual_value.specs.declared.valued.ValueFault.{ValueFault}
pub use Rattle.dual_value.specs.declared.valued.ValueFault.TheVariants.{Empty, NoMemory}
use Rattle.system_value.specs.Sizes.{MAX_RENEWABLES, MAX_SYSTEM}
use Rattle.unit_runs.specs.Patterns.{IsValueByRuns}

-- the least value of the pattern by its runs
abbrev pub IsAttained : Instance → Table → ℕ → ℤ → Pattern → Type 0
IsAttained instance table g part pattern = IsValueByRuns instance.periods table (thermal_unit instance g) (commitment_of pattern) part

-- how large the numbers of an answer are: each part, and what the total has besides the parts
pub record HasSizes (valued : Valued) : Type 0 where
  pub parts : All (λ part. unsigned_abs part ≤ MAX_PART) valued.parts
  pub rest :
      unsigned_abs (valued.total -ℤ sum_below (length valued.parts) (λ g. slice_index_or valued.parts g (pos 0))) ≤ MAX_SYSTEM + MAX_RENEWABLES

-- what unit g adds to the exact value, and a pattern of the unit. The pattern attains its value where that is what it adds,
-- and else the exact value, by its runs
pub record IsExactPartOf (instance : Instance) (node : Node) (table : Table) (g : ℕ) (part : ℤ) (pattern : Pattern) : Type 0 where
  pub value : ℤ
  pub exact : ℤ
  pub unit_value : IsUnitValue instance node table g value
  pub exact_value : IsExactUnitValue instance node table g exact
  pub is : part ≡ exact_part instance table g value exact
  pub is_pattern : IsPatternAt instance node g (commitment_of pattern)
  pub attained : IsPartOf instance node table g part pattern ⊎ IsAttained instance table g part pattern

-- the exact value of the node, with the part and a pattern of each unit
pub record IsExactValued (instance : Instance) (node : Node) (table : Table) (valued : Valued) : Type 0 where
  pub total : IsExactNodeValue instance node table valued.total
  pub size : unsigned_abs valued.total ≤ MAX_VALUE
  pub parts : length valued.parts ≡ thermal_count instance
  pub patterns : length valued.patterns ≡ thermal_count instance
  pub part : (g : ℕ) → g < thermal_count instance →
      IsExactPartOf instance node table g (slice_index_or valued.parts g (pos 0))
      (slice_index_or valued.patterns g (record { low = 0; high = 0 }))

-- these of a kind
abbrev pub IsPartOfKind : Bool → Instance → Node → Table → ℕ → ℤ → Pattern → Type 0
IsPartOfKind false = IsPartOf
IsPartOfKind true = IsExactPartOf

abbrev pub IsValuedOf : Bool → Instance → Node → Table → Valued → Type 0
IsValuedOf false = IsValued
IsValuedOf true = IsExactValued

-- why there is no answer of a kind
abbrev pub IsFaultOfKind : Bool → Instance → Node → ValueFault → Type 0
IsFaultOfKind exact instance node (Empty g) = IsFirstBlocked exact instance node g
IsFaultOfKind exact instance node NoMemory = ⊤

abbrev pub IsFaultOf : Instance → Node → ValueFault → Type 0
IsFaultOf = IsFaultOfKind false

abbrev pub IsExactFaultOf : Instance → Node → ValueFault → Type 0
IsExactFaultOf = IsFaultOfKind true

-- the same of unit g alone
abbrev pub IsPartFault : Bool → Instance → Node → ℕ → ValueFault → Type 0
IsPartFault exact instance node g (Empty n) = (n ≡ g) × IsBlocked exact instance node g
IsPartFault exact instance node g NoMemory = ⊤
