use Rattle.std.proofs.Common.{ap}
use Rattle.steal_pool.specs.declared.rule.Log.{Log}
use Rattle.steal_pool.proofs.Steps.{pushes}
use Rattle.steal_pool.proofs.seat.Seat.push.Goals as goal

pub push_as-requires-clause-pushes : goal.push_as-requires-clause-pushes
push_as-requires-clause-pushes c = pushes _ _ _ (ap (λ (v : Log). v.owns) c.self.invariant.1)
