-- The unit is the instance's, and what it gave before is its amount.
use Rattle.std.proofs.Common.{arith, ◌≡◌, ◌+◌, ap, ◌∙◌, length}
use Rattle.uc_model.specs.Prelude.{renewable_count}
use Rattle.dispatch_repair.specs.Prelude.{commitment_at, lowest, highest, period_after, thermal_amount}
use Rattle.dispatch_repair.specs.Amounts.{amount_at}
use Rattle.dispatch_repair.proofs.Places.{thermal_range, unit_read}
use Rattle.dispatch_repair.proofs.ranges.reach_of.Goals as goal

pub unit_reach-requires-clause-lawful : goal.unit_reach-requires-clause-lawful
unit_reach-requires-clause-lawful c = grind (arith, unit_read, c)

pub returns-clause-range : goal.returns-clause-range
returns-clause-range c =
    let instance = c.args.instance.now in
    let period = period_after instance c.args.patterns.now c.args.t (thermal_amount instance c.args.amounts.now) in
    let made = c.unit_reach.ensures in
    let unit = unit_read instance c.as_slice-2.result.now c.args.g c.index-as_slice-g.result c.as_slice-2.ensures c.requires.unit c.index-as_slice-g.is in
    let count : length c.as_slice.result.now ≡ renewable_count instance = ap length c.as_slice.ensures in
    thermal_range period c.args.g c.unit_reach.result.range (record {
      low = made.low ∙ (λ i. lowest (unit i) (amount_at c.args.amounts.now (count i + c.args.g)));
      high = made.high
          ∙ (λ i. highest instance.periods (unit i) (commitment_at c.args.patterns.now c.args.g) c.args.t (amount_at c.args.amounts.now (count i + c.args.g)));
      low_size = made.low_size;
      high_size = made.high_size;
    })
