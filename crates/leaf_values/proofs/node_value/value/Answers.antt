-- The entries that were reckoned are those of the table, and add up to the node's value.
use Rattle.std.proofs.Common.{List, refl, sym, subst, arith}
use Rattle.std.proofs.lemmas.List.{with_items_is}
use Rattle.uc_model.specs.Prelude.{thermal_count}
use Rattle.leaf_values.specs.inside.Totals.{AreReckonedFor}
use Rattle.leaf_values.specs.declared.entries.UnitEntry.{UnitEntry}
use Rattle.leaf_values.proofs.NodeTotals.{entries_kept, node_answer, values_at}
use Rattle.leaf_values.proofs.node_value.value.Goals as goal

pub returns-clause-value : goal.returns-clause-value
returns-clause-value c = λ table node are decided.
    let instance = c.args.instance.now in
    let fixes = c.args.fixes.now in
    let old = c.args.entries.now in
    let is = with_items_is old.units c.reckon_each.new.units (omega (arith, c.reckon_each.auto.units, c.as_mut_slice.ensures.len)) in
    let after = subst (AreReckonedFor instance fixes (thermal_count instance) old.units.items) (sym is)
    (subst (λ (units : List UnitEntry). AreReckonedFor instance fixes (thermal_count instance) units c.reckon_each.new.units)
    c.as_mut_slice.ensures.value c.reckon_each.ensures.units) in
    node_answer instance table node _ c.total.result
    (values_at instance table node fixes old _ (entries_kept instance table fixes old _ are after refl refl) after decided)
    c.total.ensures.total
