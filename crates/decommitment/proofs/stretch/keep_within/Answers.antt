-- A unit's mark stays where it is the same.
use Rattle.std.proofs.Common.{◌<◌, arith, length}
use Rattle.decommitment.proofs.Stretches.{all_kept, kept_more}
use Rattle.decommitment.proofs.stretch.keep_within.Goals as goal

pub returns-then-are_same : goal.returns-then-are_same
returns-then-are_same c = grind (arith, c)

pub loop-g-init : goal.loop-g-init
loop-g-init c = all_kept c.args.renewables c.args.first.now c.args.second.now c.args.stretch.from c.args.marks.now

pub loop-g-preserved : goal.loop-g-preserved
loop-g-preserved c =
    let g = c.loop-g.g in
    let inside : g < length c.args.marks.now = omega (arith, c.requires.within, c.loop-g-test.true) in
    kept_more c.args.renewables c.args.first.now c.args.second.now c.args.stretch.from g c.args.marks.now c.loop-g.marks c.both.result inside c.loop-g.invariant
    (λ m. c.has_mark.ensures (c.both.ensures.first m))
    (λ m. c.is_same_at-is_same.ensures (c.both.ensures.second m))

pub returns : goal.returns
returns c = grind (arith, c)
