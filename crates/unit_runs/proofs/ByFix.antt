-- Where a fix says what a node decides of a unit, the unit's patterns at the node are those that are as the fix decides.
use Rattle.std.proofs.Common.{ℕ, sym, ◌∙◌}
use Rattle.uc_model.specs.Prelude.{thermal_unit}
use Rattle.dual_model.specs.Prelude.{IsFixOf, IsPatternAt, IsPattern}
use Rattle.dual_model.proofs.ExactExists.{least_whole_values_are_exact}
use Rattle.unit_runs.specs.Patterns.{Instance, Node, Commitment}
use Rattle.unit_runs.specs.RunsToGo.{Fix}
use Rattle.unit_runs.specs.Laws.{LeastByFixIsExact, NoRunsByFixMeansUnscheduled}
use Rattle.unit_runs.proofs.ByRuns.{values_by_runs_are_exact, units_without_runs_are_unscheduled}

pattern-at : (instance : Instance) (node : Node) (g : ℕ) (fix : Fix) (on : Commitment) → IsFixOf instance.periods node g fix
    → IsPattern instance.periods (thermal_unit instance g) fix on → IsPatternAt instance node g on
pattern-at instance node g fix on same pattern = record { allowed = pattern.allowed; agrees = same.same on ∙ pattern.agrees }

pattern-of : (instance : Instance) (node : Node) (g : ℕ) (fix : Fix) (on : Commitment) → IsFixOf instance.periods node g fix
    → IsPatternAt instance node g on → IsPattern instance.periods (thermal_unit instance g) fix on
pattern-of instance node g fix on same pattern = record { allowed = pattern.allowed; agrees = sym (same.same on) ∙ pattern.agrees }

pub least_by_fix_is_exact : LeastByFixIsExact
least_by_fix_is_exact instance node table g fix v lawful known same is =
    least_whole_values_are_exact instance node table g v (values_by_runs_are_exact instance node table g v lawful known (record {
      on = is.on;
      pattern = pattern-at instance node g fix is.on same is.pattern;
      value = is.value;
      least = λ other w pattern by_runs. is.least other w (pattern-of instance node g fix other same pattern) by_runs;
    }))

pub no_runs_by_fix_means_unscheduled : NoRunsByFixMeansUnscheduled
no_runs_by_fix_means_unscheduled instance node g fix lawful known same none =
    units_without_runs_are_unscheduled instance node g lawful known (λ on pattern runs. none on (pattern-of instance node g fix on same pattern) runs)
