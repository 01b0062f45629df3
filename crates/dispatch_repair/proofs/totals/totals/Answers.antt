-- Each sum is that of its part of the ranges.
use Rattle.std.proofs.Common.{◌≡◌, ap, ◌∙◌, length}
use Rattle.uc_model.specs.Prelude.{renewable_count}
use Rattle.dispatch_repair.specs.Prelude.{period_after, low_of, high_of}
use Rattle.dispatch_repair.specs.declared.range.Range.{Range}
use Rattle.dispatch_repair.proofs.TotalSums.{heads_sum, renewable_part, summed, thermal_part}
use Rattle.dispatch_repair.proofs.totals.totals.Goals as goal

pub returns-clause-totals : goal.returns-clause-totals
returns-clause-totals c = λ before are heads.
    let period = period_after c.args.instance.now c.args.patterns.now c.args.t before in
    let ranges = c.args.ranges.now in
    let low = λ (range : Range). range.low in
    let high = λ (range : Range). range.high in
    let n = length c.as_slice-renewables.result.now in
    let first : length c.as_slice-renewables.result.now ≡ renewable_count c.args.instance.now = ap length c.as_slice-renewables.ensures in
    let long = c.requires.ranges in
    let renewable = c.sum_of_ranges-renewable.ensures in
    let thermal = c.sum_of_ranges-thermal.ensures in
    record {
      minimums = summed _ _ c.sum_of_minimums.ensures.size c.sum_of_minimums.ensures.value;
      thermal_low = summed _ _ thermal.low_size (thermal.low ∙ thermal_part period ranges n low (low_of period) (λ s r its. its.low) long first are);
      thermal_high = summed _ _ thermal.high_size (thermal.high ∙ thermal_part period ranges n high (high_of period) (λ s r its. its.high) long first are);
      heads = summed _ _ c.sum_of_heads.ensures.size (c.sum_of_heads.ensures.value ∙ heads_sum period c.args.heads.now c.requires.heads heads);
      renewable_low = summed _ _ renewable.low_size (renewable.low ∙ renewable_part period ranges n low (low_of period) (λ s r its. its.low) long first are);
      renewable_high = summed _ _ renewable.high_size (renewable.high ∙ renewable_part period ranges n high (high_of period) (λ s r its. its.high) long first are);
    }
