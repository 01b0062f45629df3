-- The next unit's cost is written, and is the next term.
use Rattle.std.proofs.Common.{◌+◌, ◌*◌, ◌^◌, ◌<◌, ◌∙◌, arith, length, length-set, set, subst, sym}
use Rattle.uc_model.specs.Prelude.{thermal_count}
use Rattle.uc_model.proofs.Sizes.{wide}
use Rattle.decommitment.proofs.RunCosts.{HasCosts, costs_more}
use Rattle.decommitment.proofs.price.price_units.Goals as goal

pub loop-g-preserved : goal.loop-g-preserved
loop-g-preserved c =
    let changed = c.args.changed.now in
    let instance = changed.instance.now in
    let g = c.loop-g.g in
    let costs = c.loop-g.costs in
    let unit : g < thermal_count instance = subst (λ xs. g < length xs) c.as_slice-g-end.ensures c.loop-g-test.true in
    let kept = wide c.in_ok-cost.cost (168 * 2 ^ 64) c.in_ok-cost.ensures.size (omega arith) in
    let next = subst (λ z. HasCosts instance changed.patterns.now changed.fills.now (g + 1) (set costs g z) c.sum-total.result) (sym kept)
    (costs_more instance changed.patterns.now changed.fills.now g costs c.in_ok-cost.cost _ c.sum-total.result
    (omega (arith, unit, c.loop-g.invariant.count, c.requires.count)) (omega (arith, unit, c.requires.changed.lawful.thermal_units)) c.loop-g.invariant.each c.in_ok-cost.ensures
    c.loop-g.invariant.value c.loop-g.invariant.size c.sum-total.ensures) in
    record {
      count = length-set costs g _ ∙ c.loop-g.invariant.count;
      each = next.each;
      value = next.value;
      size = next.size;
    }
