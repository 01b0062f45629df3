-- The hours before period t keep the ramps, each for no more than its term, and `before` is the output of the last one.
use Rattle.std.proofs.Common.{◌*◌, ◌≤◌, unsigned_abs}
use Rattle.uc_model.specs.Prelude.{commitment_of}
use Rattle.hull_function.specs.Problems.{MAX_POWER}
use Rattle.unit_exact.specs.inside.Hourly.{IsHourlyTo}
use Rattle.unit_exact.proofs.hourly.is_hourly.Given as goal

abbrev pub invariant-loop-t : goal.invariant-loop-t
invariant-loop-t l = record {
  hours : IsHourlyTo l.problem.periods l.problem.table.now l.problem.unit.now l.plain.terms.now (commitment_of l.plain.pattern.now) l.t l.before;
  size : unsigned_abs l.before ≤ 2 * MAX_POWER;
}
