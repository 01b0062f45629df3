-- The total is what the periods before cost.
use Rattle.unit_path.proofs.RunLaws.{IsRunTo}
use Rattle.unit_path.proofs.runs.run_cost.Given as goal

abbrev pub invariant-loop-t : goal.invariant-loop-t
invariant-loop-t l = IsRunTo l.terms l.unit l.fix l.since l.t l.total
