-- The lemmas that proofs of other crates cite, passed on from one place. Declares nothing.
pub use Rattle.uc_model.proofs.Quotients.{IsCeiling-least, IsCeiling-neg, IsCeiling_unique, IsFloor-add, IsFloor-greatest, IsFloor-int_div_euclid, IsFloor_unique, quotient_up-is, quotient_up-one}
pub use Rattle.uc_model.proofs.Ring.{add-le-add, add-mul, add-zero, le_antisymm, le_from_mul, le_of_eq, le_or_lt, le_refl, le_trans, linear, mul-add, mul-le-mul_left, mul-le-mul_right, mul-le-mul_turned, mul-lt-mul_left, mul-neg, mul-one, mul-sub, mul-zero, mul_assoc, mul_comm, mul_left_comm, mul_nonneg, neg-mul, one-mul, pos-le-pos, pos-mul, pos_nonneg, pos_of_nonneg, scale-le-scale, spread, sub-mul, sub_nonneg, zero-mul}
pub use Rattle.uc_model.proofs.Sums.{below_or_last, sum_below-add, sum_below-const, sum_below-first, sum_below-le, sum_below-mul_left, sum_below-mul_right, sum_below-neg, sum_below-pair, sum_below-same, sum_below-single, sum_below-split, sum_below-sub, sum_below-swap, sum_below-zero, sum_below_nonneg, term-le-sum_below}
pub use Rattle.uc_model.proofs.Tests.{all_below-at, all_below-from, any_below-at, any_below-from, eq-int_eq, int_eq-true, int_le-true, int_lt-true, int_min_left, int_min_right, le-int_le, least_below-le, least_below-le-other, lt-int_lt}
pub use Rattle.uc_model.proofs.PeriodRuns.{during-from, during-off_before, during-off_past}
pub use Rattle.uc_model.proofs.AllowedParts.{allowed-parts}
pub use Rattle.uc_model.proofs.ExtremePatterns.{fewest-from_lowest, highest-kept_off, highest-kept_on, highest-started, lowest-kept_off, lowest-kept_on, lowest-must_run, lowest-stopped, lowest-stopped_at_once, most-from_highest, none-held_off, none-too_high, none-too_weak}
pub use Rattle.uc_model.proofs.Obeyed.{Produces, is_allowed-obeying, min_nonneg, p_at_nonneg, point_p_nonneg, production_parts, rule_at}
pub use Rattle.uc_model.proofs.StartCosts.{sigma-le-allowed, sigma-size}
pub use Rattle.uc_model.proofs.MinimumTimes.{OneChange, bit-le-one, bit_nonneg, fall, one-le-bit, one_change, two_terms-le-sum_below}
pub use Rattle.uc_model.proofs.Shortages.{IsShortage, printed_shed, printed_short, share_is, shed_parts, short_parts, shortage_parts, unpriced}
pub use Rattle.uc_model.proofs.CostBound.{IsWithin, abs_of_within, within_const_sum, within_of_abs}
pub use Rattle.uc_model.proofs.HullPoints.{Holds, LiesOn, abs_is, lies_on, parts-ends, segment_at-holds, value-point, weights-ends, weights-point, width_is}
pub use Rattle.uc_model.proofs.HullSegments.{Begins, IsUnder, Rises, Steps, begin_there, first-there, holds_from, is_held, is_segment, outputs_rise, pair_there, step_there, under}
pub use Rattle.uc_model.proofs.PrintedCosts.{cost-le-printed, denominator-factor, printed_cost-fits, watts-factor, watts_positive}
pub use Rattle.uc_model.proofs.Sizes.{abs_add, abs_min, abs_mul, abs_narrow, abs_sub, abs_wide, difference-is, difference-size, floor-size, from-size, narrow, product-fits, product-is, product-size, scaled-size, sum-fits, sum-is, sum-size, wide-size}
pub use Rattle.uc_model.proofs.Caps.{is_in_bits}
