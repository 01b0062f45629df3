-- The entries of the units so far.
use Rattle.std.proofs.Common.{◌≡◌, ℕ, ◌<◌, length}
use Rattle.uc_model.specs.Prelude.{thermal_unit}
use Rattle.leaf_values.specs.Entries.{IsEntryOf, IsReckoned, entry_in}
use Rattle.leaf_values.proofs.loading.load.Given as goal

abbrev pub invariant-loop-g : goal.invariant-loop-g
invariant-loop-g l = record {
  count : length l.units.items ≡ l.g;
  reckoned : (k : ℕ) → k < l.g → IsReckoned l.instance.periods (thermal_unit l.instance k) (entry_in l.units.items k);
  entry : (k : ℕ) → k < l.g → IsEntryOf l.instance l.table k (entry_in l.units.items k);
  room : l.walk ≡ l.instance.periods;
  rows : length l.rows.items ≡ l.instance.periods;
}
