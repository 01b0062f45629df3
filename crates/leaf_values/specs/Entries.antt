-- What is kept of the units of an instance at a price table. Source: the single-unit problems of the Lagrangian
-- relaxation of the reference model by Knueven, Ostrowski and Watson; that each unit's value is kept, with the decisions
-- that it was reckoned for, is this project's own.
pub use Rattle.ramp_duals.specs.Sizes.{MAX_CONSTANT}
use Rattle.std.specs.Prelude.{◌≡◌, ℕ, ◌+◌, ◌*◌, ◌<◌, ◌≤◌, List, [], pos, ◌+ℤ◌, unsigned_abs, length, slice_index_or, ℤ, Option, None, MatchOption}
use Rattle.uc_model.specs.Prelude.{thermal_unit, thermal_count, period_count}
use Rattle.uc_model.specs.declared.instance.Instance.{Instance}
pub use Rattle.uc_model.specs.declared.instance.Thermal.{Thermal}
use Rattle.uc_model.specs.declared.limits.TheConstants.{MAX_UNITS}
use Rattle.dual_model.specs.Prelude.{HasNoUnitSchedule, IsExactUnitValue, IsFixOf, constant_at, renewables_value, system_value, IsLeastValue, AreTermsOf, AreSizedTerms, IsWithin, MAX_COST_TO_GO}
use Rattle.dual_model.specs.PatternValue.{HasNoPattern}
use Rattle.dual_model.specs.declared.node.Fix.{Fix}
use Rattle.dual_model.specs.declared.node.Node.{Node}
use Rattle.dual_model.specs.declared.table.Table.{Table}
use Rattle.system_value.specs.Sizes.{MAX_RENEWABLES, MAX_SYSTEM}
pub use Rattle.leaf_values.specs.declared.entries.UnitEntry.{UnitEntry}
pub use Rattle.leaf_values.specs.declared.entries.ExactEntry.{ExactEntry}
use Rattle.leaf_values.specs.declared.entries.ExactEntry.TheVariants as known
pub use Rattle.leaf_values.specs.declared.entries.TableEntries.{TableEntries}

-- what doesn't hang on thermal units is at most this in size, and a node's value this
abbrev pub MAX_REST : ℕ
MAX_REST = MAX_SYSTEM + MAX_RENEWABLES

abbrev pub MAX_NODE_VALUE : ℕ
MAX_NODE_VALUE = MAX_REST + MAX_UNITS * (MAX_COST_TO_GO + MAX_CONSTANT)

-- the entry of thermal unit g, from 0, and what is known of its exact value
abbrev pub no_entry : UnitEntry
no_entry = record {
  terms = record { k = pos 0; pi = []; terms = [] };
  constant = pos 0;
  fix = record { known = record { low = 0; high = 0 }; on = record { low = 0; high = 0 } };
  value = None;
}

abbrev pub entry_in : List UnitEntry → ℕ → UnitEntry
entry_in units g = slice_index_or units g no_entry

abbrev pub entry_at : TableEntries → ℕ → UnitEntry
entry_at entries = entry_in entries.units.items

abbrev pub exact_in : List ExactEntry → ℕ → ExactEntry
exact_in exact g = slice_index_or exact g known.Unsought

abbrev pub exact_at : TableEntries → ℕ → ExactEntry
exact_at entries = exact_in entries.exact.items

-- an entry of the unit, whatever the prices: its value is the least of the patterns that are as its fix decides
pub record IsReckoned (horizon : ℕ) (unit : Thermal) (entry : UnitEntry) : Type 0 where
  pub periods : period_count entry.terms ≡ horizon
  pub sized : AreSizedTerms unit entry.terms
  pub constant : unsigned_abs entry.constant ≤ MAX_CONSTANT
  pub value : MatchOption entry.value (HasNoPattern entry.terms unit entry.fix) (IsLeastValue entry.terms unit entry.fix)
  pub size : IsWithin MAX_COST_TO_GO entry.value

-- an entry for each thermal unit of the instance, whatever the prices
pub record AreUnitsReckoned (instance : Instance) (units : List UnitEntry) : Type 0 where
  pub count : length units ≡ thermal_count instance
  pub unit : (g : ℕ) → g < thermal_count instance → IsReckoned instance.periods (thermal_unit instance g) (entry_in units g)

pub record AreReckoned (instance : Instance) (entries : TableEntries) : Type 0 where
  pub units : AreUnitsReckoned instance entries.units.items
  pub rest : unsigned_abs entries.rest ≤ MAX_REST

-- the entry is that of unit g at the table
pub record IsEntryOf (instance : Instance) (table : Table) (g : ℕ) (entry : UnitEntry) : Type 0 where
  pub terms : AreTermsOf instance table g entry.terms
  pub constant : entry.constant ≡ constant_at instance table g

-- the exact value of unit g at the table, by what a fix decides of it, whatever the node that decides so; None where it has no
-- schedule of its own
pub record IsExactByFix (instance : Instance) (table : Table) (g : ℕ) (fix : Fix) (answer : Option ℤ) : Type 0 where
  pub value : (node : Node) → IsFixOf instance.periods node g fix
      → MatchOption answer (HasNoUnitSchedule instance node g) (IsExactUnitValue instance node table g)
  pub size : IsWithin MAX_COST_TO_GO answer

-- what is known of it is so
abbrev pub IsExactEntryOf : Instance → Table → ℕ → ExactEntry → Type 0
IsExactEntryOf instance table g known.Unsought = Unit {0}
IsExactEntryOf instance table g (known.Sought fix value) = IsExactByFix instance table g fix value

pub record AreExactEntriesOf (instance : Instance) (table : Table) (exact : List ExactEntry) : Type 0 where
  pub count : length exact ≡ thermal_count instance
  pub unit : (g : ℕ) → g < thermal_count instance → IsExactEntryOf instance table g (exact_in exact g)

-- the entries of the instance's units at the table, what is known of their exact values, and what doesn't hang on them
pub record AreEntriesOf (instance : Instance) (table : Table) (entries : TableEntries) : Type 0 where
  pub reckoned : AreReckoned instance entries
  pub unit : (g : ℕ) → g < thermal_count instance → IsEntryOf instance table g (entry_at entries g)
  pub exact : AreExactEntriesOf instance table entries.exact.items
  pub rest : entries.rest ≡ system_value instance table +ℤ renewables_value instance table
