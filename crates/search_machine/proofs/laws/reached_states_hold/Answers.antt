-- A run with one event more is a run.
use Rattle.search_machine.proofs.TrueSteps.{starts_are_reached, steps_reach, reached_states_hold}
use Rattle.search_machine.proofs.laws.reached_states_hold.Goals as goal

pub returns : goal.returns
returns c = record {
  start = starts_are_reached;
  step = steps_reach;
  holds = reached_states_hold c.cost_less_tolerance_never_decreases.ensures;
}
