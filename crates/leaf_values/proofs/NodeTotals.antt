-- What entries that were reckoned for a node's fixes add up to is the node's value.
use Rattle.std.proofs.Common.{◌≡◌, ℕ, ◌<◌, List, Some, None, Option, sym, ap, subst, arith, ℤ, ◌+ℤ◌, MatchOption}
use Rattle.uc_model.specs.Prelude.{thermal_count, thermal_unit}
use Rattle.uc_model.proofs.Common.{linear, sum_below-same}
use Rattle.dual_model.specs.Prelude.{HasEmptyUnit, IsFixOf, IsNodeValue, constant_at, AreTermsOf, IsUnitValueOf}
use Rattle.dual_model.proofs.TableValues.{unit_value-of}
use Rattle.leaf_values.specs.Entries.{TableEntries, UnitEntry, AreEntriesOf, IsReckoned, entry_at}
use Rattle.uc_model.specs.declared.instance.Instance.{Instance}
use Rattle.dual_model.specs.declared.table.Table.{Table}
use Rattle.leaf_values.specs.Paths.{Fix, Node, AreFixesOf}
use Rattle.leaf_values.specs.inside.ExactTotals.{AreDecided}
use Rattle.leaf_values.specs.inside.Totals.{AreReckonedFor, HasNoValue, IsTotal, part_of, value_of}

-- ---- the entries are those of the table as before
pub entries_kept : (instance : Instance) (table : Table) (fixes : List Fix) (old new : TableEntries) → AreEntriesOf instance table old
    → AreReckonedFor instance fixes (thermal_count instance) old.units.items new.units.items → new.exact ≡ old.exact → new.rest ≡ old.rest
    → AreEntriesOf instance table new
entries_kept instance table fixes old new entries after exact rest = grind (arith, linear, entries, after)

-- they are for what a node decides
pub decided_units : (instance : Instance) (node : Node) (fixes : List Fix) (old new : List UnitEntry)
    → AreReckonedFor instance fixes (thermal_count instance) old new → AreFixesOf instance node fixes → AreDecided instance node new
decided_units instance node fixes old new after are = λ g h. subst (IsFixOf instance.periods node g) (sym (after.unit g h).fix) (are.fix g h)

-- ---- a unit's value
least_of : (P : Type 0) (Q : ℤ → Type 0) (value : Option ℤ) (v : ℤ) → MatchOption value P Q → value ≡ Some v → Q v
least_of P Q value v h e = subst (λ (o : Option ℤ). MatchOption o P Q) e h

none_of : (P : Type 0) (Q : ℤ → Type 0) (value : Option ℤ) → MatchOption value P Q → value ≡ None → P
none_of P Q value h e = subst (λ (o : Option ℤ). MatchOption o P Q) e h

pub unit_value : (instance : Instance) (node : Node) (table : Table) (g : ℕ) (fix : Fix) (entry : UnitEntry) → AreTermsOf instance table g entry.terms
    → IsReckoned instance.periods (thermal_unit instance g) entry → entry.fix ≡ fix → IsFixOf instance.periods node g fix
    → IsUnitValueOf instance node table g entry.value
unit_value instance node table g fix entry terms reckoned same decided =
    grind (arith, linear, unit_value-of, least_of, none_of, reckoned, same, decided)

-- ---- the node's value
-- entries of the table that were reckoned for what the node decides
pub record AreValuesAt (instance : Instance) (table : Table) (node : Node) (entries : TableEntries) : Type 0 where
  pub are : AreEntriesOf instance table entries
  pub value : (g : ℕ) → g < thermal_count instance → IsUnitValueOf instance node table g (entry_at entries g).value

pub values_at : (instance : Instance) (table : Table) (node : Node) (fixes : List Fix) (old new : TableEntries) → AreEntriesOf instance table new
    → AreReckonedFor instance fixes (thermal_count instance) old.units.items new.units.items → AreFixesOf instance node fixes
    → AreValuesAt instance table node new
values_at instance table node fixes old new are after decided = grind (arith, linear, unit_value, are, after, decided)

node_value : (instance : Instance) (table : Table) (node : Node) (entries : TableEntries) (v : ℤ) → AreValuesAt instance table node entries
    → IsTotal entries (thermal_count instance) v → IsNodeValue instance node table v
node_value instance table node entries v at sum =
    let value = λ (g : ℕ). value_of (entry_at entries g) in
    let parts = sum_below-same (thermal_count instance) (λ g. part_of (entry_at entries g)) (λ g. value g +ℤ constant_at instance table g)
    (λ g h. ap (λ z. value g +ℤ z) (at.are.unit g h).constant) in
    record {
      unit_value = value;
      units = λ g h. subst (IsUnitValueOf instance node table g) (sum.each g h) (at.value g h);
      total = omega (arith, linear, at.are.rest, sum.total);
    }

empty_unit : (instance : Instance) (table : Table) (node : Node) (entries : TableEntries) → AreValuesAt instance table node entries
    → HasNoValue entries (thermal_count instance) → HasEmptyUnit instance node
empty_unit instance table node entries at without = grind (arith, linear, at, without)

pub node_answer : (instance : Instance) (table : Table) (node : Node) (entries : TableEntries) (answer : Option ℤ) → AreValuesAt instance table node entries
    → MatchOption answer (HasNoValue entries (thermal_count instance)) (IsTotal entries (thermal_count instance))
    → MatchOption answer (HasEmptyUnit instance node) (IsNodeValue instance node table)
node_answer instance table node entries None at without = empty_unit instance table node entries at without
node_answer instance table node entries (Some v) at sum = node_value instance table node entries v at sum
