use Rattle.std.proofs.Common.{◌≡◌, vec_len, All}
use Rattle.steal_pool.specs.Ends.{IsNew}
use Rattle.steal_pool.proofs.pool.deques.Given as goal

abbrev pub invariant-loop : goal.invariant-loop
invariant-loop l = (vec_len l.made ≡ l.counter) × All (IsNew l.room) l.made.items
