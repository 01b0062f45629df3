-- The rules so far hold throughout.
use Rattle.std.proofs.Common.{ℕ, ◌<◌, get_or}
use Rattle.schedule_check.specs.FirstBroken.{HoldsThroughout}
use Rattle.schedule_check.specs.WholeWatts.{MustRun, numerators_hold, rule_of}
use Rattle.schedule_check.specs.declared.unit_rule.TheConstants.{UNIT_RULES}
use Rattle.schedule_check.proofs.feasibility.first_broken_by_unit.Given as goal

abbrev pub invariant-loop-rule : goal.invariant-loop-rule
invariant-loop-rule l = (k : ℕ) → k < l.rule-index
    → HoldsThroughout l.instance (λ r. numerators_hold r l.instance l.printed) (rule_of (get_or UNIT_RULES k MustRun))
