-- The sum before the one period less that before the other.
use Rattle.std.proofs.Common.{arith, ◌+◌, sym, ◌∙◌, lit<, ◌-ℤ◌}
use Rattle.uc_model.proofs.Common.{difference-is, difference-size}
use Rattle.uc_model.proofs.Sizes.{wide}
use Rattle.interval_graph.specs.Intervals.{MAX_INTERVAL}
use Rattle.interval_graph.proofs.PlainSums.{apart}
use Rattle.interval_graph.proofs.intervals.Intervals.between.Goals as goal

pub difference-requires : goal.difference-requires
difference-requires c = grind (arith, c)

pub returns-clause-value : goal.returns-clause-value
returns-clause-value c =
    let size = difference-size c.sum_before-later.result c.sum_before-earlier.result c.difference.result MAX_INTERVAL MAX_INTERVAL c.difference.ensures
    c.sum_before-later.ensures.size c.sum_before-earlier.ensures.size in
    wide c.difference.result (MAX_INTERVAL + MAX_INTERVAL) size (lit< tt)
    ∙ difference-is c.sum_before-later.result c.sum_before-earlier.result c.difference.result MAX_INTERVAL MAX_INTERVAL c.difference.ensures
    c.sum_before-later.ensures.size c.sum_before-earlier.ensures.size (lit< tt)
    ∙ (λ i. c.sum_before-later.ensures.value i -ℤ c.sum_before-earlier.ensures.value i)
    ∙ sym (apart c.args.self.now c.args.from c.args.to c.requires.order)

pub returns-clause-size : goal.returns-clause-size
returns-clause-size c = grind (arith, c)
