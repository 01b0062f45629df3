-- What the exact values of units add to a node's value, one after the other. This project's own form.
use Rattle.std.specs.Prelude.{◌≡◌, ℕ, ◌+◌, ◌<◌, List, ℤ, ◌+ℤ◌, ◌-ℤ◌, Option, Some, None}
use Rattle.std.specs.Int.{int_max}
use Rattle.uc_model.specs.Prelude.{sum_below, thermal_count}
use Rattle.dual_model.specs.Prelude.{MAX_COST_TO_GO, IsExactUnitValue, exact_part, IsFixOf, unit_part, IsUnitValue}
use Rattle.dual_model.specs.declared.table.Table.{Table}
use Rattle.leaf_values.specs.Entries.{UnitEntry, MAX_CONSTANT, entry_in}
use Rattle.leaf_values.specs.Paths.{Instance, Node}

-- each entry is for what the node decides of its unit
abbrev pub AreDecided : Instance → Node → List UnitEntry → Type 0
AreDecided instance node units = (g : ℕ) → g < thermal_count instance → IsFixOf instance.periods node g (entry_in units g).fix

-- what a unit adds is at most this in size
abbrev pub MAX_PART : ℕ
MAX_PART = MAX_COST_TO_GO + MAX_CONSTANT

-- how much the greater of two values is above the second, where both are there
abbrev pub gain_of : Option ℤ → Option ℤ → Option ℤ
gain_of None b = None
gain_of (Some a) None = None
gain_of (Some a) (Some b) = Some (int_max a b -ℤ b)

-- what a unit adds to the node's exact value above what it adds to the node's value
abbrev pub exact_gain : Instance → Table → ℕ → ℤ → ℤ → ℤ
exact_gain instance table g value exact = exact_part instance table g value exact -ℤ unit_part instance table g value

-- w is a number with what the first n units gain at the node
pub record IsGained (instance : Instance) (table : Table) (node : Node) (plain : ℤ) (n : ℕ) (w : ℤ) : Type 0 where
  pub unit_value : ℕ → ℤ
  pub exact_value : ℕ → ℤ
  pub units : (g : ℕ) → g < n → IsUnitValue instance node table g (unit_value g)
  pub exact_units : (g : ℕ) → g < n → IsExactUnitValue instance node table g (exact_value g)
  pub total : w ≡ plain +ℤ sum_below n (λ g. exact_gain instance table g (unit_value g) (exact_value g))
