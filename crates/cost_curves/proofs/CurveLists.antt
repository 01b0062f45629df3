-- The curves of the first units, and one more.
use Rattle.std.proofs.Common.{◌≡◌, ℕ, ◌+◌, ◌<◌, ◌≤◌, ⊎_elim, List, [], ◌∷◌, ◌++◌, sym, ap, subst, ◌∙◌, arith}
use Rattle.std.proofs.lemmas.Bool.{cases_lt}
use Rattle.std.proofs.lemmas.List.{get_or_append_left, get_or_push, length-append}
use Rattle.uc_model.specs.Prelude.{thermal_unit}
use Rattle.uc_model.specs.declared.instance.Thermal.{Thermal}
use Rattle.cost_curves.specs.LowerHull.{Point, IsLowerHull}
use Rattle.cost_curves.specs.UnitCurves.{Instance, AreCurvesTo}

pub curves-more : (instance : Instance) (n : ℕ) (unit : Thermal) (curves : List (List Point)) (curve : List Point) → thermal_unit instance n ≡ unit
    → IsLowerHull unit.points curve → AreCurvesTo instance n curves → AreCurvesTo instance (n + 1) (curves ++ curve ∷ [])
curves-more instance n unit curves curve is hull before = record {
  count = length-append curves (curve ∷ []) ∙ ap (λ k. k + 1) before.count;
  curve = λ g h. ⊎_elim
      (λ (earlier : g < n).
      subst (IsLowerHull (thermal_unit instance g).points) (sym (get_or_append_left curves (curve ∷ []) [] g (omega (arith, before.count)))) (before.curve g earlier))
      (λ (last : n ≤ g).
      let e : g ≡ n = omega arith in
      subst (IsLowerHull (thermal_unit instance g).points) (sym (get_or_push curves curve [] g (before.count ∙ sym e)))
      (subst (λ k. IsLowerHull (thermal_unit instance k).points curve) (sym e)
      (subst (λ (u : Thermal). IsLowerHull u.points curve) (sym is) hull)))
      (cases_lt g n);
}
