use Rattle.std.proofs.Common.{◌≡◌, All, vec_len}
use Rattle.tree_search.specs.inside.Searches.{IsOn}
use Rattle.tree_search.proofs.members.others.Given as goal

-- the workers so far, all on the instance
abbrev pub invariant-loop : goal.invariant-loop
invariant-loop l = (vec_len l.workers ≡ l.counter) × All (IsOn l.fn.values.instance.now) l.workers.items
