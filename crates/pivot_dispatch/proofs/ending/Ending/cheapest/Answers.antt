-- The scale is made.
use Rattle.std.proofs.Common.{inl, inr}
use Rattle.pivot_dispatch.proofs.Answering.{wide_is}
use Rattle.pivot_dispatch.proofs.Ended.{cheapest_here}
use Rattle.pivot_dispatch.proofs.ending.Ending.cheapest.Goals as goal

pub returns-in-Err : goal.returns-in-Err
returns-in-Err c =
    let task = c.requires.ended.0 in
    let ended = c.requires.ended.1 in
    let cheapest = cheapest_here c.args.self.now task ended c.requires.allowed c.requires.lawful c.requires.none in
    let wide = c.in-Err.ensures.wide task ended in
    wide_is c.args.self.now task ended c.in-Err.wide.size c.in-Err.wide.other c.too_large.result (inr (cheapest, inr (inl wide.0))) wide.1 c.too_large.ensures
