-- One unit more, with its value and its constant.
use Rattle.std.proofs.Common.{◌≡◌, ◌<◌, length, subst, ◌∙◌, arith, to_z, Some}
use Rattle.std.specs.Int.{w128}
use Rattle.std.proofs.lemmas.List.{get_or_default}
use Rattle.leaf_values.specs.Entries.{UnitEntry, entry_at, no_entry}
use Rattle.uc_model.specs.declared.limits.TheConstants.{MAX_UNITS}
use Rattle.leaf_values.specs.inside.Totals.{part_of, value_of}
use Rattle.leaf_values.proofs.Reckoned.{one_more}
use Rattle.leaf_values.proofs.node_value.total.Goals as goal

pub loop-g-preserved : goal.loop-g-preserved
loop-g-preserved c =
    let entries = c.args.entries.now in
    let g = c.loop-g.g in
    let few : g < MAX_UNITS = omega (arith, c.requires.entries.units.count, c.requires.lawful.thermal_units) in
    let within : g < length entries.units.items = omega arith in
    let read : c.index.result.now ≡ entry_at entries g = c.index.ensures ∙ get_or_default entries.units.items g c.index.result.now no_entry within in
    let more = one_more entries g (to_z w128 c.loop-g.total-bits) c.in-Some.part c.sum-total.result few c.loop-g.invariant.sum
    (subst (λ (entry : UnitEntry). entry.value ≡ Some (value_of entry)) read c.in-Some.ensures.part.0)
    (subst (λ (entry : UnitEntry). c.in-Some.part ≡ part_of entry) read c.in-Some.ensures.part.1)
    c.sum-total.ensures c.loop-g.invariant.size c.in-Some.ensures.size in
    record { sum = more.sum; size = more.size }
