-- One curve more.
use Rattle.std.proofs.Common.{◌≡◌, ◌+◌, ◌<◌, length, List, sym, ap, subst, ◌∙◌, arith, slice_index_or}
use Rattle.std.proofs.lemmas.List.{get_or_default}
use Rattle.uc_model.specs.Prelude.{no_unit, thermal_unit}
use Rattle.uc_model.specs.declared.instance.Thermal.{Thermal}
use Rattle.cost_curves.specs.LowerHull.{IsLowerHull}
use Rattle.cost_curves.specs.UnitCurves.{AreCurvesTo}
use Rattle.cost_curves.proofs.CurveLists.{curves-more}
use Rattle.cost_curves.proofs.unit_curves.curves_of.Goals as goal

pub loop-unit-preserved : goal.loop-unit-preserved
loop-unit-preserved c =
    let instance = c.args.instance.now in
    let n = c.loop-unit.unit-index in
    let unit = c.unit-item.result in
    let within : n < length instance.thermal = omega (arith, ap length c.as_slice-units.ensures) in
    let is : thermal_unit instance n ≡ unit =
    get_or_default instance.thermal n no_unit unit within
    ∙ sym (subst (λ (units : List Thermal). unit ≡ slice_index_or units n unit) c.as_slice-units.ensures c.unit-item.is) in
    subst (AreCurvesTo instance (n + 1)) (sym c.in_ok-push.ensures.items)
    (curves-more instance n unit c.loop-unit.curves.items c.in_ok-of.field-0 is
    (subst (λ points. IsLowerHull points c.in_ok-of.field-0) c.as_slice.ensures c.in_ok-of.ensures.hull) c.loop-unit.invariant)
