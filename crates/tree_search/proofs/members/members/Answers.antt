-- The seats are those of a fresh pool.
use Rattle.std.proofs.Common.{◌+◌, IfOk, subst, sym}
use Rattle.steal_pool.specs.Pools.{IsFreshPool}
use Rattle.tree_search.proofs.members.members.Goals as goal

pub seated-members-requires-clause-seats : goal.seated-members-requires-clause-seats
seated-members-requires-clause-seats g c =
    let fresh = IsFreshPool c.args.options.now.workers (c.args.options.now.budget + 2) in
    let pool = subst (λ made. IfOk made fresh) c.in_ok-workers-2.ensures.made c.new-pool.ensures in
    subst fresh (sym c.into_seats.ensures) pool
