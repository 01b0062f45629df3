-- The trace has the way that the table's choices lead before the period.
use Rattle.std.proofs.Common.{◌≡◌}
use Rattle.dual_model.specs.Prelude.{IsTraced}
use Rattle.unit_exact.specs.inside.Switches.{choices_in}
use Rattle.unit_exact.proofs.trace.pattern_of.Given as goal

abbrev pub invariant-loop-t : goal.invariant-loop-t
invariant-loop-t l = record {
  end : l.trace.end ≡ l.problem.periods;
  traced : IsTraced (choices_in l.entries) l.problem.unit.now.on0 l.first l.t l.trace;
}
