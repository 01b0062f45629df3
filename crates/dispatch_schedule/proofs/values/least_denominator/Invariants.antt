-- The least common multiple so far, above 0, by small products.
use Rattle.std.proofs.Common.{◌≡◌, pos, ◌<ℤ◌}
use Rattle.pivot_run.specs.Prelude.{IsNarrow}
use Rattle.dispatch_schedule.specs.inside.Values.{JoiningForms, joined_to}
use Rattle.dispatch_schedule.proofs.values.least_denominator.Given as goal

abbrev pub invariant-loop-value : goal.invariant-loop-value
invariant-loop-value l = record {
  is : l.least ≡ joined_to l.values l.value-index;
  positive : pos 0 <ℤ l.least;
  narrow : IsNarrow (JoiningForms l.values l.value-index);
}
