use Rattle.std.proofs.Common.{◌≡◌, ◌+◌, ◌*◌, length}
use Rattle.incumbent.specs.Costs.{AtMost}
use Rattle.search_desk.specs.Best.{IsNoWorse}
use Rattle.tree_search.proofs.crowd.joined.Given as goal

-- the parts of the passes that are left are missing
abbrev pub invariant-loop-member : goal.invariant-loop-member
invariant-loop-member g l = (l.own.parts + 2 * length l.member-iterator.rest.items ≡ l.best.parts) × AtMost l.own.seen l.initial.own.seen
    × IsNoWorse l.fn.own.schedule l.own.schedule
