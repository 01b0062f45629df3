use Rattle.steal_pool.proofs.Steps.{takes_one}
use Rattle.steal_pool.proofs.theft.Theft.steal.Goals as goal

pub steal_as-requires-clause-takes : goal.steal_as-requires-clause-takes
steal_as-requires-clause-takes c = takes_one _ _
