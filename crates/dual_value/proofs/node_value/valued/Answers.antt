-- One unit more, the first one that is blocked, or the whole.
use Rattle.std.proofs.Common.{◌≡◌, ◌+◌, ◌*◌, ◌<◌, ◌≤◌, length, sym, ap, subst, ◌∙◌, lit<, arith, ◌+ℤ◌, to_z, of_z, unsigned_abs}
use Rattle.std.specs.Int.{w128}
use Rattle.uc_model.specs.Prelude.{thermal_count}
use Rattle.uc_model.proofs.Common.{abs_add, sum-is, sum-size, wide-size}
use Rattle.uc_model.proofs.Sizes.{wide}
use Rattle.dual_value.specs.NodeAnswer.{HasSizes, IsPartOfKind, MAX_PART}
use Rattle.dual_value.specs.Rooms.{keeps_ramps}
use Rattle.system_value.specs.Sizes.{MAX_RENEWABLES, MAX_SYSTEM}
use Rattle.dual_value.proofs.ValuedUnits.{err-only, first-without, sized-all, valued-all, valued-more, valued-none, IsValuedTo}
use Rattle.dual_value.proofs.node_value.valued.Goals as goal

pub sum-total-requires : goal.sum-total-requires
sum-total-requires c = grind (arith, c)

pub sum-total-requires-in-loop-g : goal.sum-total-requires-in-loop-g
sum-total-requires-in-loop-g c = grind (arith, c)

pub loop-g-init : goal.loop-g-init
loop-g-init c = grind (arith, sum-size, valued-none, wide, sum-is, wide-size, c)

pub unit_part-requires-clause-unit : goal.unit_part-requires-clause-unit
unit_part-requires-clause-unit c = omega (arith, c.loop-g-test.true, ap length c.as_slice-units.ensures)

pub unit_part-requires-clause-room : goal.unit_part-requires-clause-room
unit_part-requires-clause-room c = grind (arith, c)

pub returns-in_err-part-clause-fault : goal.returns-in_err-part-clause-fault
returns-in_err-part-clause-fault c = grind (arith, first-without, err-only, c)

pub loop-g-preserved : goal.loop-g-preserved
loop-g-preserved c =
    let g = c.loop-g.g in
    let within : g < thermal_count c.args.instance.now = omega (arith, c.loop-g-test.true, ap length c.as_slice-units.ensures) in
    let kept = wide c.in_ok-part.part MAX_PART c.in_ok-part.ensures.size (lit< tt) in
    let small = wide-size c.in_ok-part.part MAX_PART c.in_ok-part.ensures.size in
    let most : unsigned_abs (to_z w128 c.loop-g.total-bits +ℤ to_z w128 (of_z w128 c.in_ok-part.part)) ≤ MAX_SYSTEM + MAX_RENEWABLES + 4096 * MAX_PART =
    omega (arith, within, c.requires.lawful.thermal_units, abs_add (to_z w128 c.loop-g.total-bits) (to_z w128 (of_z w128 c.in_ok-part.part)) (MAX_SYSTEM + MAX_RENEWABLES + g * MAX_PART) MAX_PART c.loop-g.invariant.valued.size small) in
    let size : unsigned_abs c.sum-total-in-loop-g.result ≤ MAX_SYSTEM + MAX_RENEWABLES + 4096 * MAX_PART =
    subst (λ x. unsigned_abs x ≤ MAX_SYSTEM + MAX_RENEWABLES + 4096 * MAX_PART) (sym c.sum-total-in-loop-g.ensures) most in
    record {
      valued = valued-more (keeps_ramps c.args.room.now) c.args.instance.now c.args.node.now c.args.table.now g (to_z w128 c.loop-g.total-bits) (to_z w128 (of_z w128 c.in_ok-part.part))
          (to_z w128 (of_z w128 c.sum-total-in-loop-g.result)) c.in_ok-part.pattern c.loop-g.parts.items c.loop-g.patterns.items within
          (subst (λ x. IsPartOfKind (keeps_ramps c.args.room.now) c.args.instance.now c.args.node.now c.args.table.now g x c.in_ok-part.pattern) (sym kept)
          (subst (λ room. IsPartOfKind (keeps_ramps room) c.args.instance.now c.args.node.now c.args.table.now g c.in_ok-part.part c.in_ok-part.pattern) c.loop-g.invariant.room c.in_ok-part.ensures.part))
          small
          (wide c.sum-total-in-loop-g.result (MAX_SYSTEM + MAX_RENEWABLES + 4096 * MAX_PART) size (lit< tt) ∙ c.sum-total-in-loop-g.ensures)
          c.loop-g.invariant.valued;
      scratch = c.unit_part.ensures.kept ∙ c.loop-g.invariant.scratch;
      room = c.unit_part.ensures.kept_room ∙ c.loop-g.invariant.room;
    }

pub returns-clause-value : goal.returns-clause-value
returns-clause-value c = grind (arith, valued-all, c)

pub returns-clause-sizes : goal.returns-clause-sizes
returns-clause-sizes c =
    let whole : c.loop-g.g ≡ thermal_count c.args.instance.now = omega (arith, c.loop-g-test.false, ap length c.as_slice-units.ensures) in
    let all = sized-all (keeps_ramps c.args.room.now) c.args.instance.now c.args.node.now c.args.table.now (to_z w128 c.loop-g.total-bits) c.loop-g.parts.items c.loop-g.patterns.items
    (subst (λ n. IsValuedTo (keeps_ramps c.args.room.now) c.args.instance.now c.args.node.now c.args.table.now n (to_z w128 c.loop-g.total-bits) c.loop-g.parts.items c.loop-g.patterns.items) whole c.loop-g.invariant.valued) in
    subst (λ parts. HasSizes (record { total = to_z w128 c.loop-g.total-bits; parts = parts; patterns = c.from_vec-2.result })) (sym c.from_vec.ensures)
    (subst (λ patterns. HasSizes (record { total = to_z w128 c.loop-g.total-bits; parts = c.loop-g.parts.items; patterns = patterns })) (sym c.from_vec-2.ensures) all)
