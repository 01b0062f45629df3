-- The numbers so far.
use Rattle.dispatch_schedule.specs.declared.power.Power.TheVariants.{Missing}
use Rattle.dispatch_schedule.specs.inside.Chosen.{AreNumbers, total_of}
use Rattle.dispatch_schedule.proofs.printing.missing.Given as goal

abbrev pub invariant-loop-t : goal.invariant-loop-t
invariant-loop-t l = AreNumbers (λ t. total_of l.chosen (Missing t)) l.t l.row.items
