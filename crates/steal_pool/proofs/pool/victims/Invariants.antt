use Rattle.std.proofs.Common.{◌≡◌, map, take, All}
use Rattle.steal_pool.specs.Ends.{IsFirstInFirstOut, own_id, victim_id}
use Rattle.steal_pool.proofs.pool.victims.Given as goal

abbrev pub invariant-loop-own : goal.invariant-loop-own
invariant-loop-own l = (map victim_id l.made.items ≡ map own_id (take l.own-index l.deques)) × All IsFirstInFirstOut l.made.items
