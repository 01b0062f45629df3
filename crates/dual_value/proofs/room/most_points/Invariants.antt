-- Each unit so far has at most so many points.
use Rattle.std.proofs.Common.{ℕ, ◌<◌, ◌≤◌, get_or, length}
use Rattle.uc_model.specs.Prelude.{no_unit}
use Rattle.uc_model.specs.declared.limits.TheConstants.{MAX_POINTS}
use Rattle.dual_value.proofs.room.most_points.Given as goal

abbrev pub invariant-loop-unit : goal.invariant-loop-unit
invariant-loop-unit l = record {
  most : (g : ℕ) → g < l.unit-index → length (get_or l.units g no_unit).points ≤ l.most;
  limit : l.most ≤ MAX_POINTS;
}
