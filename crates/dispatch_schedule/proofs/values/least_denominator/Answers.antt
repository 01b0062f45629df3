-- The next denominator.
use Rattle.std.proofs.Common.{rules, ◌≡◌, pos, ◌<ℤ◌, sym, subst, ◌∙◌, to_z, of_z, SFits}
use Rattle.std.proofs.lemmas.Int.{to_z-of_z}
use Rattle.std.specs.Int.{w128}
use Rattle.dispatch_schedule.proofs.NextValues.{next_is, next_positive, next_narrow}
use Rattle.dispatch_schedule.proofs.values.least_denominator.Goals as goal

pub loop-value-preserved : goal.loop-value-preserved
loop-value-preserved c =
    let fits : SFits w128 c.in_ok-least.least = search rules in
    let same : to_z w128 (of_z w128 c.in_ok-least.least) ≡ c.in_ok-least.least = to_z-of_z w128 c.in_ok-least.least fits in
    let i = c.loop-value.value-index in
    let old = to_z w128 c.loop-value.least-bits in
    record {
      is = same ∙ next_is c.args.values.now c.loop-value.value-index c.loop-value-test.true (to_z w128 c.loop-value.least-bits) c.in_ok-least.least _ c.loop-value.invariant.is c.in_ok-least.ensures.value;
      positive = subst (λ z. pos 0 <ℤ z) (sym same)
          (next_positive c.args.values.now c.loop-value.value-index c.loop-value-test.true (to_z w128 c.loop-value.least-bits) c.in_ok-least.least _ c.loop-value.invariant.is c.requires c.loop-value.invariant.positive c.in_ok-least.ensures.value);
      narrow = next_narrow c.args.values.now c.loop-value.value-index c.loop-value-test.true (to_z w128 c.loop-value.least-bits) c.in_ok-least.least _ c.loop-value.invariant.is c.loop-value.invariant.narrow c.in_ok-least.ensures.narrow;
    }
