-- The entries that were reckoned are those of the table, and add up to the node's value.
use Rattle.std.proofs.Common.{lit<, refl, sym, subst, arith, MatchOption, inr}
use Rattle.std.specs.Vec.{with_items}
use Rattle.std.proofs.lemmas.List.{with_items_is}
use Rattle.uc_model.specs.Prelude.{thermal_count}
use Rattle.uc_model.proofs.Sizes.{wide}
use Rattle.dual_model.specs.Prelude.{IsWithin, HasEmptyUnit, IsNodeValue}
use Rattle.leaf_values.specs.Entries.{MAX_NODE_VALUE}
use Rattle.leaf_values.specs.inside.Totals.{AreReckonedFor}
use Rattle.leaf_values.proofs.ExactSums.{empty-unscheduled}
use Rattle.leaf_values.proofs.NodeTotals.{decided_units, entries_kept, node_answer, values_at}
use Rattle.leaf_values.proofs.exact.exact_reaches.Goals as goal
use Rattle.leaf_values.proofs.exact.exact_reaches.Goals.{After-reckon_each}

-- the units' entries after the reckoning
reckoned : (c : After-reckon_each) → AreReckonedFor c.args.instance.now c.args.fixes.now (thermal_count c.args.instance.now) c.args.entries.now.units.items
    (with_items c.args.entries.now.units c.reckon_each.new.units).items
reckoned c = grind (arith, with_items_is)

pub reaches_from-requires-clause-entries : goal.reaches_from-requires-clause-entries
reaches_from-requires-clause-entries c =
    let instance = c.args.instance.now in
    let fixes = c.args.fixes.now in
    let old = c.args.entries.now in
    let after = reckoned (goal.at.reaches_from-requires-clause-entries c).After-reckon_each in
    entries_kept instance c.args.table.now fixes old _ c.requires.entries after refl refl

pub returns-in-None-clause-kept : goal.returns-in-None-clause-kept
returns-in-None-clause-kept c =
    let instance = c.args.instance.now in
    let fixes = c.args.fixes.now in
    let old = c.args.entries.now in
    let after = reckoned (goal.at.returns-in-None-clause-kept c).After-reckon_each in
    entries_kept instance c.args.table.now fixes old _ c.requires.entries after refl refl

pub returns-in-None-clause-reaches : goal.returns-in-None-clause-reaches
returns-in-None-clause-reaches c = λ node decided.
    let instance = c.args.instance.now in
    let table = c.args.table.now in
    let fixes = c.args.fixes.now in
    let old = c.args.entries.now in
    let after = reckoned (goal.at.returns-in-None-clause-reaches c).After-reckon_each in
    let are = entries_kept instance table fixes old _ c.requires.entries after refl refl in
    let answer = node_answer instance table node _ c.total.result (values_at instance table node fixes old _ are after decided) c.total.ensures.total in
    let empty : HasEmptyUnit instance node = subst (λ o. MatchOption o (HasEmptyUnit instance node) (IsNodeValue instance node table)) c.in-None.is answer in
    ((λ told. inr (empty-unscheduled instance node empty)), (λ reaches. refl))

pub returns-in-Some-clause-reaches : goal.returns-in-Some-clause-reaches
returns-in-Some-clause-reaches c = λ node decided.
    let instance = c.args.instance.now in
    let table = c.args.table.now in
    let fixes = c.args.fixes.now in
    let old = c.args.entries.now in
    let after = reckoned (goal.at.returns-in-Some-clause-reaches c).After-reckon_each in
    let are = entries_kept instance table fixes old _ c.requires.entries after refl refl in
    let answer = node_answer instance table node _ c.total.result (values_at instance table node fixes old _ are after decided) c.total.ensures.total in
    let value = subst (λ o. MatchOption o (HasEmptyUnit instance node) (IsNodeValue instance node table)) c.in-Some.is answer in
    let small = subst (λ o. IsWithin MAX_NODE_VALUE o) c.in-Some.is c.total.ensures.size in
    let own = wide c.in-Some.plain MAX_NODE_VALUE small (lit< tt) in
    c.reaches_from.ensures.reaches node (decided_units instance node fixes old.units.items _ after decided)
    (subst (IsNodeValue instance node table) (sym own) value)
