-- The sort moves the segments, and its order is that of merit.
use Rattle.std.proofs.Common.{rules}
use Rattle.std.proofs.lemmas.Fn.{always_returns_same}
use Rattle.dispatch_repair.specs.Prelude.{comes_before}
use Rattle.dispatch_repair.proofs.MeritSegments.{merit_is_order, in_merit_order}
use Rattle.dispatch_repair.proofs.merit_order.merit_order.Goals as goal

pub returns : goal.returns
returns c =
    in_merit_order c.args.instance.now c.in_ok-segments.segments.items _ c.in_ok-segments.ensures c.sort_unstable_by.ensures.permutation
    (c.sort_unstable_by.ensures.sorted comes_before merit_is_order (always_returns_same _ _ _ (λ a r q k. search rules)))
