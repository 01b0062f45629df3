-- What the least value by runs says of a unit of an instance.
use Rattle.std.proofs.Common.{◌≡◌, ℕ, ◌<◌, arith, sym, ap, subst, ◌∙◌, ℤ, Option, Some, None, MatchOption}
use Rattle.uc_model.specs.Prelude.{IsLawfulInstance, thermal_count, thermal_unit}
use Rattle.dual_model.specs.Prelude.{IsWithin, MAX_COST_TO_GO, HasNoUnitSchedule, IsExactUnitValue, IsFixOf}
use Rattle.unit_runs.specs.Patterns.{Instance, Node}
use Rattle.unit_runs.specs.RunsToGo.{Fix, HasNoRunsByFix, IsLeastByFix, least_runs}
use Rattle.unit_runs.proofs.ByFix.{least_by_fix_is_exact, no_runs_by_fix_means_unscheduled}
use Rattle.unit_runs.proofs.RunWays.{runs_to_go_are_least}
use Rattle.state_walk.specs.inside.Problems.{IsLawful, Steps, Table, Thermal}
use Rattle.state_walk.proofs.WaySizes.{to-go-fits}

-- ---- the answer
module _ (instance : Instance) (table : Table) (g : ℕ) (fix : Fix) (unit : Thermal) (hull : Steps) (lawful : IsLawfulInstance instance)
    (known : g < thermal_count instance) (unit_is : unit ≡ thermal_unit instance g) (problem : IsLawful instance.periods table unit hull) (cost : Option ℤ)
    (is : cost ≡ least_runs instance.periods table unit fix) where
  answered : (o : Option ℤ) → MatchOption o (HasNoRunsByFix instance.periods (thermal_unit instance g) fix) (IsLeastByFix instance.periods table (thermal_unit instance g) fix)
      → (node : Node) → IsFixOf instance.periods node g fix → MatchOption o (HasNoUnitSchedule instance node g) (IsExactUnitValue instance node table g)
  answered None none node same = no_runs_by_fix_means_unscheduled instance node g fix lawful known same none
  answered (Some v) least node same = least_by_fix_is_exact instance node table g fix v lawful known same least

  pub exact-value : (node : Node) → IsFixOf instance.periods node g fix → MatchOption cost (HasNoUnitSchedule instance node g) (IsExactUnitValue instance node table g)
  exact-value =
      answered cost
      (subst (λ o. MatchOption o (HasNoRunsByFix instance.periods (thermal_unit instance g) fix) (IsLeastByFix instance.periods table (thermal_unit instance g) fix))
      (sym (is ∙ ap (λ u. least_runs instance.periods table u fix) unit_is))
      (runs_to_go_are_least instance.periods table (thermal_unit instance g) fix (lawful.thermal g known) lawful.periods.0 lawful.periods.1))

  pub exact-size : IsWithin MAX_COST_TO_GO cost
  exact-size =
      subst (λ o. IsWithin MAX_COST_TO_GO o) (sym is)
      (to-go-fits instance.periods table unit hull problem fix instance.periods 0 unit.on0 0 (omega arith) (omega arith))
