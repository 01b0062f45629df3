-- The scale is within its limit, or above it.
use Rattle.std.proofs.Common.{subst, ◌∙◌, arith, pos, ◌≤ℤ◌, ◌<ℤ◌, to_z, of_z}
use Rattle.std.specs.Int.{w128}
use Rattle.std.proofs.lemmas.Int.{ints, to_z-of_z}
use Rattle.pivot_dispatch.proofs.Answering.{large_scale}
use Rattle.pivot_dispatch.proofs.Ended.{cheapest_here}
use Rattle.pivot_dispatch.proofs.ending.Ending.scaled.Goals as goal

pub shown-requires-clause-table : goal.shown-requires-clause-table
shown-requires-clause-table c =
    let within : to_z w128 (of_z w128 c.args.k) ≤ℤ pos 1000000000 = grind (arith, ints, c.if-k-le-MAX_SCALE.true) in
    c.requires.table (subst (λ z. z ≤ℤ pos 1000000000) (to_z-of_z w128 c.args.k c.ranges.k) within)

pub returns-else-k-le-MAX_SCALE : goal.returns-else-k-le-MAX_SCALE
returns-else-k-le-MAX_SCALE c =
    let task = c.requires.ended.0 in
    let ended = c.requires.ended.1 in
    let above : pos 1000000000 <ℤ to_z w128 (of_z w128 c.args.k) = grind (arith, ints, c.if-k-le-MAX_SCALE.false) in
    large_scale c.args.self.now task ended (to_z w128 (of_z w128 c.args.k)) c.met.result
    (cheapest_here c.args.self.now task ended c.requires.allowed c.requires.lawful c.requires.none)
    (to_z-of_z w128 c.args.k c.ranges.k ∙ c.requires.scale task ended) above c.met.ensures
