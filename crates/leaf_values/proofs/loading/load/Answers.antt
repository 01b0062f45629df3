-- One unit more.
use Rattle.std.proofs.Common.{◌≡◌, ℕ, ◌+◌, ◌<◌, List, length, lit<, arith, ap, ◌∙◌, below_more, rules, ◌++◌, ◌∷◌, [], take, drop, replicate, ℤ}
use Rattle.uc_model.specs.Prelude.{thermal_count, thermal_unit}
use Rattle.uc_model.specs.declared.instance.Instance.{Instance}
use Rattle.uc_model.proofs.Sizes.{wide}
use Rattle.dual_model.specs.declared.table.Table.{Table}
use Rattle.leaf_values.specs.Entries.{ExactEntry, Thermal, UnitEntry, AreExactEntriesOf, IsEntryOf, IsReckoned, MAX_REST, entry_in}
use Rattle.leaf_values.specs.declared.entries.ExactEntry.TheVariants as known
use Rattle.std.proofs.lemmas.List.{get_or_append_left, get_or_push, get_or-replicate, length-append, length-take, length-drop, length-replicate}
use Rattle.leaf_values.proofs.loading.load.Goals as goal

-- what holds of each entry and of the next one holds of each when it is there
pushed : (P : ℕ → UnitEntry → Type 0) (units more : List UnitEntry) (entry : UnitEntry) (n : ℕ) → more ≡ units ++ entry ∷ [] → length units ≡ n
    → ((k : ℕ) → k < n → P k (entry_in units k)) → P n entry → (k : ℕ) → k < n + 1 → P k (entry_in more k)
pushed P units more entry n is long each last = grind (arith, below_more, get_or_append_left, get_or_push, is, long, each, last)

-- the prices of a unit are written over those of the one before
rows_kept : (len : ℕ) (new items : List (ℤ × ℤ × ℤ)) → len ≡ length items → length new ≡ length items
    → length (take len (new ++ drop (length new) items)) ≡ length items
rows_kept len new items all same = simp (length-take, length-append, length-drop) (omega arith)

pub loop-g-preserved : goal.loop-g-preserved
loop-g-preserved c =
    let instance = c.args.instance.now in
    let before = c.loop-g.invariant in
    record {
      count = search rules;
      reckoned = pushed (λ k. IsReckoned instance.periods (thermal_unit instance k)) c.loop-g.units.items c.push.new.self.items c.in_ok-entry.field-0 c.loop-g.g
          c.in_ok-push.ensures.items before.count before.reckoned c.in_ok-entry.ensures.reckoned;
      entry = pushed (λ k. IsEntryOf instance c.args.table.now k) c.loop-g.units.items c.push.new.self.items c.in_ok-entry.field-0 c.loop-g.g
          c.in_ok-push.ensures.items before.count before.entry c.in_ok-entry.ensures.entry;
      room = c.entry.ensures.kept ∙ before.room;
      rows = rows_kept c.loop-g.rows.len c.entry.new.rows c.loop-g.rows.items (omega (arith, c.loop-g.rows.ok.0))
          (omega (arith, c.entry.auto.rows, c.deref_mut.ensures.len)) ∙ before.rows;
    }

-- where nothing is known, that is so
none-known : (instance : Instance) (table : Table) (exact : List ExactEntry) (n : ℕ) → n ≡ thermal_count instance → exact ≡ replicate n known.Unsought
    → AreExactEntriesOf instance table exact
none-known instance table exact n count is = grind (arith, length-replicate, get_or-replicate, count, is)

pub returns-clause-entries : goal.returns-clause-entries
returns-clause-entries c =
    let instance = c.args.instance.now in
    let table = c.args.table.now in
    let before = c.loop-g.invariant in
    let past = c.loop-g-test.false in
    let end = c.loop-g.auto.g-end in
    let units = ap (λ (xs : List Thermal). length xs) c.as_slice-g-end.ensures in
    let all : c.loop-g.g ≡ thermal_count instance = omega (arith, past, end, units) in
    let own = wide c.rest.result MAX_REST c.rest.ensures.size (lit< tt) in
    record {
      reckoned = grind (arith, units, before, all, own, c);
      unit = λ k l. before.entry k (omega (arith, l, all));
      exact = none-known instance table c.in_ok-exact.exact.items _ (ap (λ (xs : List Thermal). length xs) c.as_slice.ensures)
          (c.in_ok-exact.ensures.items_if_clones_equal (λ y is. is));
      rest = own ∙ c.rest.ensures.value;
    }
