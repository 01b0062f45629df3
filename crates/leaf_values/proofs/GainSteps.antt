-- The steps of a sum that exact values are added to: what the next unit gains, and entries of which one more exact value is known.
use Rattle.std.proofs.Common.{◌≡◌, ℕ, ◌+◌, ◌*◌, ◌<◌, ◌≤◌, List, refl, sym, subst, arith, ℤ, ◌+ℤ◌, to_z, of_z, unsigned_abs, slice_index_or, slice_set, get_or-set_same, get_or-set_other, length-set, pos, Option, Some, None, MatchOption}
use Rattle.std.specs.Int.{w128}
use Rattle.std.proofs.lemmas.Bool.{cases_eq}
use Rattle.std.proofs.lemmas.List.{get_or_default}
use Rattle.uc_model.specs.Prelude.{thermal_count}
use Rattle.uc_model.specs.declared.limits.TheConstants.{MAX_UNITS}
use Rattle.dual_model.specs.Prelude.{HasNoUnitSchedule, HasUnscheduledUnit, IsExactUnitValue, IsFixOf, IsUnitValueOf}
use Rattle.dual_model.specs.declared.table.Table.{Table}
use Rattle.leaf_values.specs.Entries.{ExactEntry, TableEntries, UnitEntry, AreEntriesOf, AreExactEntriesOf, IsExactByFix, IsExactEntryOf, MAX_NODE_VALUE, entry_at}
use Rattle.leaf_values.specs.Paths.{Instance, Node}
use Rattle.leaf_values.specs.inside.ExactTotals.{IsGained, MAX_PART, gain_of}
use Rattle.leaf_values.specs.inside.Totals.{IsPart}
use Rattle.leaf_values.proofs.ExactSums.{next-gain, unscheduled}
use Rattle.leaf_values.proofs.NodeTotals.{unit_value}

-- ---- what is read
pub entry-read : (instance : Instance) (table : Table) (entries : TableEntries) (g : ℕ) (read : UnitEntry) → AreEntriesOf instance table entries
    → g < thermal_count instance → read ≡ slice_index_or entries.units.items g read → read ≡ entry_at entries g
entry-read instance table entries g read are known is = grind (arith, get_or_default, are, known, is)

pub exact-read : (instance : Instance) (table : Table) (entries : TableEntries) (g : ℕ) (read : ExactEntry) → AreEntriesOf instance table entries
    → g < thermal_count instance → read ≡ slice_index_or entries.exact.items g read → IsExactEntryOf instance table g read
exact-read instance table entries g read are within is = grind (arith, get_or_default, are, within, is)

-- ---- one exact value more is known
pub known-more : (instance : Instance) (table : Table) (exact : List ExactEntry) (g : ℕ) (new : ExactEntry) → g < thermal_count instance
    → AreExactEntriesOf instance table exact → IsExactEntryOf instance table g new → AreExactEntriesOf instance table (slice_set exact g new)
known-more instance table exact g new within are is =
    grind (arith, length-set, slice_set, get_or-set_same, get_or-set_other, cases_eq, within, are, is)

pub entries-with : (instance : Instance) (table : Table) (old new : TableEntries) → AreEntriesOf instance table old → new.units.items ≡ old.units.items
    → new.rest ≡ old.rest → AreExactEntriesOf instance table new.exact.items → AreEntriesOf instance table new
entries-with instance table old new are units rest exact = grind (arith, are)

-- ---- the next unit gains, or has no schedule of its own
module _ (instance : Instance) (table : Table) (node : Node) (entries : TableEntries) (g : ℕ) (are : AreEntriesOf instance table entries)
    (known : g < thermal_count instance) (decided : IsFixOf instance.periods node g (entry_at entries g).fix) (decider adder : UnitEntry)
    (decider-is : decider ≡ entry_at entries g) (adder-is : adder ≡ entry_at entries g) (exact part : Option ℤ)
    (found : IsExactByFix instance table g decider.fix exact) (adds : IsPart adder part) where
  value-here : IsUnitValueOf instance node table g (entry_at entries g).value
  value-here =
      unit_value instance node table g (entry_at entries g).fix (entry_at entries g) (are.unit g known).terms (are.reckoned.units.unit g known) refl decided

  exact-here : MatchOption exact (HasNoUnitSchedule instance node g) (IsExactUnitValue instance node table g)
  exact-here = found.value node (subst (λ (entry : UnitEntry). IsFixOf instance.periods node g entry.fix) (sym decider-is) decided)

  part-here : IsPart (entry_at entries g) part
  part-here = subst (λ (entry : UnitEntry). IsPart entry part) adder-is adds

  pub none-here : gain_of exact part ≡ None → HasUnscheduledUnit instance node
  none-here none =
      unscheduled instance table node (pos 0) g known (entry_at entries g) (are.unit g known) value-here exact part exact-here part-here none

  pub gain-here : (plain v p w : ℤ) → gain_of exact part ≡ Some p → IsGained instance table node plain g v → w ≡ v +ℤ p
      → IsGained instance table node plain (g + 1) w
  gain-here plain v p w some so_far sum =
      next-gain instance table node plain g known (entry_at entries g) (are.unit g known) value-here exact part v p w exact-here part-here some so_far sum

-- ---- the sum, as its bits
pub record OneMore (n : ℕ) (total gain result : ℤ) : Type 0 where
  pub sum : to_z w128 (of_z w128 result) ≡ total +ℤ gain
  pub size : unsigned_abs (to_z w128 (of_z w128 result)) ≤ MAX_NODE_VALUE + (n + 1) * (2 * MAX_PART)

pub one_more : (n : ℕ) (total gain result : ℤ) → n < MAX_UNITS → result ≡ total +ℤ to_z w128 (of_z w128 gain)
    → unsigned_abs total ≤ MAX_NODE_VALUE + n * (2 * MAX_PART) → unsigned_abs gain ≤ 2 * MAX_PART → OneMore n total gain result
one_more n total gain result few e most small = grind (arith, few, e, most, small)
