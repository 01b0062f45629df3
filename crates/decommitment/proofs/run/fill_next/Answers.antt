-- The next period comes after the amounts of the last one, in both runs.
use Rattle.std.proofs.Common.{◌≡◌, ◌<◌, List, ℤ, arith, length, subst, sym}
use Rattle.uc_model.specs.Prelude.{thermal_count}
use Rattle.dispatch_repair.specs.Prelude.{AreBeforePeriod}
use Rattle.decommitment.specs.DropCommitment.{Pattern}
use Rattle.decommitment.specs.inside.Runs.{AreFills, Fill, IsSetting, Setting, instance_of, order_of, outputs_before}
use Rattle.decommitment.proofs.Runs.{before_period}
use Rattle.decommitment.proofs.run.fill_next.Goals as goal

-- what is given before the next period
before_next : (setting : Setting) (patterns : List Pattern) (fills : List Fill) (given : List ℤ) → given ≡ outputs_before setting.start.now fills (length fills)
    → IsSetting setting → AreFills (instance_of setting) (order_of setting) patterns setting.start.now fills → length patterns ≡ thermal_count (instance_of setting)
    → length fills < (instance_of setting).periods → AreBeforePeriod (instance_of setting) patterns (length fills) given
before_next setting patterns fills given is own are count within =
    subst (AreBeforePeriod (instance_of setting) patterns (length fills)) (sym is) (before_period (instance_of setting) (order_of setting) patterns
    setting.start.now fills own.lawful own.start are count (length fills) (omega arith) within)

pub fill_again-requires-clause-hour : goal.fill_again-requires-clause-hour
fill_again-requires-clause-hour c = grind (arith, before_next, c)

pub fill_anew-requires-clause-hour : goal.fill_anew-requires-clause-hour
fill_anew-requires-clause-hour c = grind (arith, before_next, c)

pub given_before-requires : goal.given_before-requires
given_before-requires c = grind (arith, c)

pub fill_again-requires-clause-base : goal.fill_again-requires-clause-base
fill_again-requires-clause-base c = grind (arith, c)
