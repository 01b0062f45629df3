-- What the least way with its pattern says of the unit.
use Rattle.std.proofs.Common.{◌≡◌, ℕ, ◌<◌, sym, subst, ◌∙◌, ℤ, Option, Some, None, IfSome, MatchOption}
use Rattle.uc_model.specs.Prelude.{IsLawfulInstance, commitment_of, thermal_count, thermal_unit}
use Rattle.dual_model.specs.Prelude.{HasNoUnitSchedule, IsExactUnitValue, IsFixOf, IsPatternAt}
use Rattle.unit_runs.specs.Patterns.{Instance, Node, IsValueByRuns}
use Rattle.unit_runs.specs.RunsToGo.{Fix, HasNoRunsByFix, IsLeastByFix, least_runs, whole_way}
use Rattle.unit_runs.proofs.ByFix.{least_by_fix_is_exact, no_runs_by_fix_means_unscheduled}
use Rattle.unit_runs.proofs.RunWays.{runs_to_go_are_least, ways_are_values}
pub use Rattle.hull_function.proofs.Units.{unit-read}
use Rattle.unit_exact.specs.inside.Choices.{Pattern, value_of}
use Rattle.unit_exact.specs.inside.Problems.{Table, Thermal}

-- a least value with a pattern whose way costs it
pub record IsFound (periods : ℕ) (table : Table) (unit : Thermal) (fix : Fix) (result : Option (ℤ × Pattern)) : Type 0 where
  pub least : value_of result ≡ least_runs periods table unit fix
  pub way : IfSome result (λ best. whole_way periods table unit fix (commitment_of best.1) ≡ Some best.0)

module _ (instance : Instance) (table : Table) (g : ℕ) (fix : Fix) (result : Option (ℤ × Pattern)) (lawful : IsLawfulInstance instance)
    (known : g < thermal_count instance) (found : IsFound instance.periods table (thermal_unit instance g) fix result) where
  abbrev unit : Thermal
  unit = thermal_unit instance g

  least_is : MatchOption (value_of result) (HasNoRunsByFix instance.periods unit fix) (IsLeastByFix instance.periods table unit fix)
  least_is =
      subst (λ o. MatchOption o (HasNoRunsByFix instance.periods unit fix) (IsLeastByFix instance.periods table unit fix)) (sym found.least)
      (runs_to_go_are_least instance.periods table unit fix (lawful.thermal g known) lawful.periods.0 lawful.periods.1)

  value_by : (result : Option (ℤ × Pattern)) → MatchOption (value_of result) (HasNoRunsByFix instance.periods unit fix) (IsLeastByFix instance.periods table unit fix)
      → (node : Node) → IsFixOf instance.periods node g fix → IfSome result (λ best. IsExactUnitValue instance node table g best.0)
  value_by None is node same = tt
  value_by (Some best) is node same = least_by_fix_is_exact instance node table g fix best.0 lawful known same is

  pub found-value : (node : Node) → IsFixOf instance.periods node g fix → IfSome result (λ best. IsExactUnitValue instance node table g best.0)
  found-value = value_by result least_is

  none_by : (result : Option (ℤ × Pattern)) → MatchOption (value_of result) (HasNoRunsByFix instance.periods unit fix) (IsLeastByFix instance.periods table unit fix)
      → (node : Node) → IsFixOf instance.periods node g fix → result ≡ None → HasNoUnitSchedule instance node g
  none_by None is node same e = no_runs_by_fix_means_unscheduled instance node g fix lawful known same is
  none_by (Some best) is node same e = cc

  pub found-none : (node : Node) → IsFixOf instance.periods node g fix → result ≡ None → HasNoUnitSchedule instance node g
  found-none = none_by result least_is

  pattern_by : (result : Option (ℤ × Pattern)) → IfSome result (λ best. whole_way instance.periods table unit fix (commitment_of best.1) ≡ Some best.0)
      → (node : Node) → IsFixOf instance.periods node g fix → IfSome result (λ best. IsPatternAt instance node g (commitment_of best.1))
  pattern_by None way node same = tt
  pattern_by (Some best) way node same =
      let pattern = (ways_are_values instance.periods table unit fix (commitment_of best.1) best.0 (lawful.thermal g known) lawful.periods.0 lawful.periods.1 way).0 in
      record { allowed = pattern.allowed; agrees = same.same (commitment_of best.1) ∙ pattern.agrees }

  pub found-pattern : (node : Node) → IsFixOf instance.periods node g fix → IfSome result (λ best. IsPatternAt instance node g (commitment_of best.1))
  found-pattern = pattern_by result found.way

  attained_by : (result : Option (ℤ × Pattern)) → IfSome result (λ best. whole_way instance.periods table unit fix (commitment_of best.1) ≡ Some best.0)
      → IfSome result (λ best. IsValueByRuns instance.periods table unit (commitment_of best.1) best.0)
  attained_by None way = tt
  attained_by (Some best) way =
      (ways_are_values instance.periods table unit fix (commitment_of best.1) best.0 (lawful.thermal g known) lawful.periods.0 lawful.periods.1 way).1

  pub found-attained : IfSome result (λ best. IsValueByRuns instance.periods table unit (commitment_of best.1) best.0)
  found-attained = attained_by result found.way
