-- The table is that of the period before the ones that are behind.
use Rattle.std.proofs.Common.{◌-◌}
use Rattle.uc_model.specs.Prelude.{period_count}
use Rattle.state_walk.specs.inside.WalkTable.{IsTable}
use Rattle.state_walk.proofs.walk.least_cost_to_go.Given as goal

abbrev pub invariant-loop-back : goal.invariant-loop-back
invariant-loop-back l = IsTable l.terms l.unit l.fix l.back (period_count l.terms - l.back) l.values
