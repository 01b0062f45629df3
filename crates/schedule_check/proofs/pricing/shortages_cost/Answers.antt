-- The period's cost is the next term.
use Rattle.std.proofs.Common.{◌≡◌, ◌*◌, ◌∙◌, arith, rules, pos, ◌+ℤ◌, ◌*ℤ◌, slice_index_or, to_z, of_z}
use Rattle.std.specs.Int.{w64}
use Rattle.uc_model.specs.Prelude.{quotient_up, printed_shortage_cost}
use Rattle.schedule_check.specs.WholeWatts.{lacking_alone}
use Rattle.schedule_check.specs.declared.pricing.TheConstants.{MOST_MISSING_COST}
use Rattle.schedule_check.proofs.AddedSums.{added}
use Rattle.schedule_check.proofs.pricing.shortages_cost.Goals as goal

pub loop-t-preserved : goal.loop-t-preserved
loop-t-preserved c =
    let instance = c.args.instance.now in
    let shed_at = slice_index_or c.args.shed.now c.loop-t.t (pos 0) in
    let short_at = slice_index_or c.args.short.now c.loop-t.t (pos 0) in
    let shed : to_z w64 (of_z w64 shed_at) ≡ shed_at = search rules in
    let short : to_z w64 (of_z w64 short_at) ≡ short_at = search rules in
    let term = c.shortage_cost.ensures.value
    ∙ (λ i. quotient_up (pos instance.a *ℤ shed i) (pos c.args.denominator) +ℤ quotient_up (pos instance.b *ℤ short i) (pos c.args.denominator)) in
    let next = added c.loop-t.t (printed_shortage_cost instance (lacking_alone c.args.denominator c.args.shed.now c.args.short.now)) _ c.shortage_cost.result
    c.sum-total.result (2 * MOST_MISSING_COST) c.loop-t.invariant.value term c.sum-total.ensures c.loop-t.invariant.size c.shortage_cost.ensures.size
    (omega (arith, c.loop-t-test.true, c.requires.lawful.periods.1)) in
    record { value = next.value; size = next.size }
