use Rattle.std.proofs.Common.{◌≡◌, ◌≤◌, map, drop, length, vec_len}
use Rattle.steal_pool.specs.Ends.{own_id}
use Rattle.steal_pool.specs.Pools.{AreFresh}
use Rattle.steal_pool.proofs.pool.seats.Given as goal

-- the deques that are left are those behind the ones that have a seat
abbrev pub invariant-loop-own : goal.invariant-loop-own
invariant-loop-own l = (drop (vec_len l.made) l.fn.deques.items ≡ l.own-iterator.rest.items)
    × (vec_len l.made ≤ length l.fn.deques.items) × AreFresh (map own_id l.fn.deques.items) l.room l.made.items
