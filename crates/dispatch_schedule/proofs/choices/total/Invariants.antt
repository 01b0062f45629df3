-- The sum so far.
use Rattle.std.proofs.Common.{◌≡◌}
use Rattle.uc_model.specs.Prelude.{sum_below}
use Rattle.dispatch_schedule.specs.inside.Chosen.{part_of}
use Rattle.dispatch_schedule.proofs.choices.total.Given as goal

abbrev pub invariant-loop-item : goal.invariant-loop-item
invariant-loop-item l = l.sum ≡ sum_below l.item-index (part_of l.chosen l.power)
