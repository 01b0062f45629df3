-- The unit's new part in place of the old one, or that the unit has no pattern.
use Rattle.std.proofs.Common.{◌+◌, false, length, sym, ap, subst, ◌∙◌, lit<, arith, ◌+ℤ◌, to_z, of_z, slice_set}
use Rattle.std.specs.Int.{w128}
use Rattle.uc_model.specs.Prelude.{thermal_count}
use Rattle.uc_model.proofs.Common.{sum-size, wide-size}
use Rattle.uc_model.proofs.Sizes.{wide}
use Rattle.dual_value.specs.NodeAnswer.{IsFaultOf, IsPartFault, IsPartOf, IsPartOfKind, MAX_PART, MAX_VALUE}
use Rattle.dual_value.specs.Rooms.{IsRoomFor}
use Rattle.dual_value.proofs.ChildValues.{only-without, unit-within, valued-child}
use Rattle.dual_value.proofs.ValuedUnits.{err-only, sized-all, valued-all, IsValuedTo}
use Rattle.dual_value.proofs.inheritance.child.Goals as goal

pub unit_part-requires-clause-unit : goal.unit_part-requires-clause-unit
unit_part-requires-clause-unit c =
    unit-within c.args.instance.now c.args.node.now c.args.inherited.now.table.now c.args.inherited.now.g c.args.inherited.now.parent.now c.requires.node c.requires.parent

pub unit_part-requires-clause-room : goal.unit_part-requires-clause-room
unit_part-requires-clause-room c = subst (λ b. IsRoomFor b c.args.instance.now c.args.room.now) (sym c.requires.room.kind) c.requires.room

pub returns-in_err-part-clause-fault : goal.returns-in_err-part-clause-fault
returns-in_err-part-clause-fault c =
    let within = unit-within c.args.instance.now c.args.node.now c.args.inherited.now.table.now c.args.inherited.now.g c.args.inherited.now.parent.now c.requires.node c.requires.parent in
    err-only c.from_residual.result c.in_err-part.field-0.0 (IsFaultOf c.args.instance.now c.args.node.now) c.from_residual.ensures.1
    (only-without c.args.instance.now c.args.node.now c.args.inherited.now.table.now c.args.inherited.now.g c.args.inherited.now.parent.now c.in_err-part.field-0.0
    within c.requires.parent (subst (λ b. IsPartFault b c.args.instance.now c.args.node.now c.args.inherited.now.g c.in_err-part.field-0.0) c.requires.room.kind c.in_err-part.ensures.fault))

pub total_without-requires-clause-unit : goal.total_without-requires-clause-unit
total_without-requires-clause-unit c =
    let within = unit-within c.args.instance.now c.args.node.now c.args.inherited.now.table.now c.args.inherited.now.g c.args.inherited.now.parent.now c.requires.node c.requires.parent in
    omega (arith, c.requires.parent.value.parts)

pub replaced-requires : goal.replaced-requires
replaced-requires c =
    let within = unit-within c.args.instance.now c.args.node.now c.args.inherited.now.table.now c.args.inherited.now.g c.args.inherited.now.parent.now c.requires.node c.requires.parent in
    omega (arith, c.requires.parent.value.parts, ap length c.as_slice.ensures)

pub replaced-requires-2 : goal.replaced-requires-2
replaced-requires-2 c =
    let within = unit-within c.args.instance.now c.args.node.now c.args.inherited.now.table.now c.args.inherited.now.g c.args.inherited.now.parent.now c.requires.node c.requires.parent in
    omega (arith, c.requires.parent.value.patterns, ap length c.as_slice-2.ensures)

-- ---- the answer
valued : (c : goal.In_ok-patterns) → IsValuedTo false c.args.instance.now c.args.node.now c.args.inherited.now.table.now (thermal_count c.args.instance.now)
    (to_z w128 (of_z w128 c.sum-total.result)) c.in_ok-parts.parts c.in_ok-patterns.patterns
valued c =
    let within = unit-within c.args.instance.now c.args.node.now c.args.inherited.now.table.now c.args.inherited.now.g c.args.inherited.now.parent.now c.requires.node c.requires.parent in
    let g = c.args.inherited.now.g in
    let part = to_z w128 (of_z w128 c.in_ok-part.part) in
    let kept = wide c.in_ok-part.part MAX_PART c.in_ok-part.ensures.size (lit< tt) in
    let is = subst (λ b. IsPartOfKind b c.args.instance.now c.args.node.now c.args.inherited.now.table.now g c.in_ok-part.part c.in_ok-part.pattern) c.requires.room.kind c.in_ok-part.ensures.part in
    let size = sum-size c.total_without.result c.in_ok-part.part c.sum-total.result (MAX_VALUE + MAX_PART) MAX_PART c.sum-total.ensures c.total_without.ensures.size c.in_ok-part.ensures.size in
    let without = wide c.total_without.result (MAX_VALUE + MAX_PART) c.total_without.ensures.size (lit< tt) ∙ c.total_without.ensures.value in
    let parts = c.in_ok-parts.ensures ∙ ap (λ items. slice_set items g part) c.as_slice.ensures in
    let patterns = c.in_ok-patterns.ensures ∙ ap (λ items. slice_set items g c.in_ok-part.pattern) c.as_slice-2.ensures in
    subst (λ x. IsValuedTo false c.args.instance.now c.args.node.now c.args.inherited.now.table.now (thermal_count c.args.instance.now) (to_z w128 (of_z w128 c.sum-total.result)) x c.in_ok-patterns.patterns) (sym parts)
    (subst (λ x. IsValuedTo false c.args.instance.now c.args.node.now c.args.inherited.now.table.now (thermal_count c.args.instance.now) (to_z w128 (of_z w128 c.sum-total.result)) (slice_set c.args.inherited.now.parent.now.parts g part) x) (sym patterns)
    (valued-child c.args.instance.now c.args.node.now c.args.inherited.now.table.now g c.args.inherited.now.parent.now (to_z w128 (of_z w128 c.sum-total.result)) part c.in_ok-part.pattern
    within c.requires.parent (subst (λ x. IsPartOf c.args.instance.now c.args.node.now c.args.inherited.now.table.now g x c.in_ok-part.pattern) (sym kept) is)
    (wide-size c.in_ok-part.part MAX_PART c.in_ok-part.ensures.size)
    (wide c.sum-total.result (MAX_VALUE + MAX_PART + MAX_PART) size (lit< tt) ∙ c.sum-total.ensures ∙ (λ i. without i +ℤ part))))

pub returns-clause-value : goal.returns-clause-value
returns-clause-value c =
    valued-all false c.args.instance.now c.args.node.now c.args.inherited.now.table.now (to_z w128 (of_z w128 c.sum-total.result)) c.in_ok-parts.parts c.in_ok-patterns.patterns
    c.requires.lawful.thermal_units (valued c)

pub returns-clause-sizes : goal.returns-clause-sizes
returns-clause-sizes c =
    sized-all false c.args.instance.now c.args.node.now c.args.inherited.now.table.now (to_z w128 (of_z w128 c.sum-total.result)) c.in_ok-parts.parts c.in_ok-patterns.patterns (valued c)
