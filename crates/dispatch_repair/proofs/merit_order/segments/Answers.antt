-- A thermal unit has the segments of its curve.
use Rattle.std.proofs.Common.{◌≡◌, ◌+◌, ◌<◌, length, arith, sym, subst, ap, ◌∙◌, slice_index_or}
use Rattle.std.proofs.lemmas.List.{get_or_read}
use Rattle.uc_model.specs.Prelude.{thermal_unit, renewable_count, no_unit}
use Rattle.uc_model.specs.declared.instance.Thermal.{Thermal}
use Rattle.cost_curves.specs.LowerHull.{IsLowerHull}
use Rattle.dispatch_repair.specs.Prelude.{AreSegmentsOf}
use Rattle.dispatch_repair.proofs.merit_order.segments.Goals as goal

pub loop-g-preserved : goal.loop-g-preserved
loop-g-preserved c =
    let instance = c.args.instance.now in
    let g = c.loop-g.g in
    let within : g < length instance.thermal = subst (λ xs. g < length xs) c.as_slice-units.ensures c.loop-g-test.true in
    let unit : c.index-units-g.result ≡ thermal_unit instance g =
    get_or_read c.as_slice-units.result.now g c.index-units-g.result c.loop-g-test.true c.index-units-g.is no_unit
    ∙ ap (λ xs. slice_index_or xs g no_unit) c.as_slice-units.ensures in
    let source : length c.as_slice-renewables.result.now + g ≡ renewable_count instance + g = ap (λ xs. length xs + g) c.as_slice-renewables.ensures in
    let hull : IsLowerHull (thermal_unit instance g).points c.corners.result.now =
    subst (λ points. IsLowerHull points c.corners.result.now) (c.as_slice.ensures ∙ ap (λ (u : Thermal). u.points) (sym c.index-units-g.is ∙ unit))
    (subst (IsLowerHull c.as_slice.result.now) (sym c.corners.ensures.value) c.in_ok-curve.ensures.hull) in
    let done = c.in_ok-push_curve.ensures instance g source within hull c.loop-g.invariant in
    subst (λ k. AreSegmentsOf instance k c.push_curve.new.segments.items) (omega arith) done
