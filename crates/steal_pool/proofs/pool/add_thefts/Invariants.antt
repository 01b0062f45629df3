use Rattle.std.proofs.Common.{◌≡◌, ◌++◌, map, take}
use Rattle.steal_pool.specs.Seats.{what_taken, untouched}
use Rattle.steal_pool.specs.Ends.{victim_id}
use Rattle.steal_pool.proofs.pool.add_thefts.Given as goal

abbrev pub invariant-loop-victim : goal.invariant-loop-victim
invariant-loop-victim l =
    map what_taken l.thefts.items ≡ map what_taken l.initial.thefts.items ++ map untouched (map victim_id (take l.victim-index l.victims))
