-- The trace has the way that the table's choices lead before the period.
use Rattle.std.proofs.Common.{◌≡◌}
use Rattle.uc_model.specs.Prelude.{period_count}
use Rattle.dual_model.specs.Prelude.{IsTraced}
use Rattle.unit_path.specs.inside.Hours.{choices_in}
use Rattle.unit_path.proofs.trace.pattern_of.Given as goal

abbrev pub invariant-loop-t : goal.invariant-loop-t
invariant-loop-t l = record {
  end : l.trace.end ≡ period_count l.terms;
  traced : IsTraced (choices_in l.hours) l.unit.on0 l.first l.t l.trace;
}
