-- The table is right from the last of the periods that are behind.
use Rattle.std.proofs.Common.{◌-◌}
use Rattle.uc_model.specs.Prelude.{period_count}
use Rattle.unit_path.specs.inside.Hours.{IsTableFrom}
use Rattle.unit_path.proofs.path.fill.Given as goal

abbrev pub invariant-loop-back : goal.invariant-loop-back
invariant-loop-back l = IsTableFrom l.terms l.unit l.fix (period_count l.terms - l.back) l.hours
