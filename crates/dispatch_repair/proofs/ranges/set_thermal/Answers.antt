-- A head more, and a range more behind those of the renewable units.
use Rattle.std.proofs.Common.{◌≡◌, ℕ, ◌+◌, ◌<◌, pos, subst, sym, ap, ◌∙◌, length, arith, w64, to_z, of_z}
use Rattle.std.proofs.Math.ListN.{set}
use Rattle.uc_model.specs.Prelude.{renewable_count, thermal_count}
use Rattle.uc_model.proofs.Common.{narrow}
use Rattle.dispatch_repair.specs.Prelude.{period_after, IsHeadOf, IsRangeOf, thermal_amount, range_at}
use Rattle.dispatch_repair.specs.Amounts.{amount_at}
use Rattle.dispatch_repair.proofs.Listed.{below_set, below_set_after, set_after}
use Rattle.dispatch_repair.proofs.ranges.set_thermal.Goals as goal

pub loop-g-preserved : goal.loop-g-preserved
loop-g-preserved c =
    let instance = c.args.instance.now in
    let g = c.loop-g.g in
    let period = period_after instance c.args.patterns.now c.args.t (thermal_amount instance c.args.amounts.now) in
    let before = c.loop-g.invariant in
    let reach = c.reach_of-reach.result in
    let count : length c.as_slice-renewables.result.now ≡ renewable_count instance = ap length c.as_slice-renewables.ensures in
    let h : g < thermal_count instance = subst (λ xs. g < length xs) c.as_slice-g-end.ensures c.loop-g-test.true in
    let within : (renewable_count instance) + g < (length c.loop-g.ranges) = omega (arith, c.loop-g.auto.ranges ∙ c.requires.ranges) in
    let head = to_z w64 (of_z w64 reach.head) in
    let bits : head ≡ reach.head = narrow reach.head _ c.reach_of-reach.ensures.head.size (omega arith) in
    let heads = below_set (IsHeadOf period) c.loop-g.heads g head (pos 0) (omega (arith, h, c.loop-g.auto.heads ∙ c.requires.heads)) before.heads
    (subst (IsHeadOf period g) (sym bits) c.reach_of-reach.ensures.head) in
    subst
    (λ m. record {
      others : (w : ℕ) → w < renewable_count instance → range_at (set c.loop-g.ranges (m + g) reach.range) w ≡ range_at c.args.ranges.now w;
      own : (k : ℕ) → k < g + 1 → IsRangeOf period (renewable_count instance + k) (range_at (set c.loop-g.ranges (m + g) reach.range) (renewable_count instance + k));
      heads : (k : ℕ) → k < g + 1 → IsHeadOf period k (amount_at (set c.loop-g.heads g head) k);
    })
    (sym count)
    (record {
      others = λ w hw. set_after c.loop-g.ranges (renewable_count instance) g w reach.range (record { low = pos 0; high = pos 0 }) hw ∙ before.others w hw;
      own = below_set_after (λ k. IsRangeOf period (renewable_count instance + k)) c.loop-g.ranges (renewable_count instance) g reach.range
          (record { low = pos 0; high = pos 0 }) within before.own c.reach_of-reach.ensures.range;
      heads = heads;
    })
