use Rattle.std.proofs.Common.{◌≡◌, ◌+◌, ◌*◌, All, drop, vec_len}
use Rattle.steal_pool.specs.Pools.{IsFreshPool}
use Rattle.tree_search.specs.inside.Searches.{IsOn}
use Rattle.tree_search.proofs.members.seated.Given as goal

-- the seats that are left are those behind the ones that have a worker, and each worker has two parts of the incumbent
abbrev pub invariant-loop-seat : goal.invariant-loop-seat
invariant-loop-seat g l = (drop (vec_len l.members) l.initial.seat-iterator.rest.items ≡ l.seat-iterator.rest.items)
    × IsFreshPool l.options.workers (l.options.budget + 2) l.initial.seat-iterator.rest.items
    × (vec_len l.members + vec_len l.workers ≡ l.options.workers)
    × (l.own.parts + 2 * vec_len l.members ≡ 2 * l.options.workers + 1) × (l.own.schedule ≡ l.fn.own.schedule)
    × All (IsOn g.C.Case.opening.instance) l.workers.items
