-- The row keeps the rules so far.
use Rattle.std.proofs.Common.{ℕ, ◌<◌, get_or}
use Rattle.schedule_check.specs.CommitmentRules.{RowKeeps}
use Rattle.schedule_check.specs.declared.unit_rule.TheConstants.{COMMITMENT_RULES}
use Rattle.schedule_check.specs.declared.unit_rule.UnitRule.TheVariants.{MustRun}
use Rattle.schedule_check.proofs.unit_rules.broken_rule.Given as goal

abbrev pub invariant-loop-rule : goal.invariant-loop-rule
invariant-loop-rule l = (k : ℕ) → k < l.rule-index → RowKeeps l.unit l.row (get_or COMMITMENT_RULES k MustRun)
