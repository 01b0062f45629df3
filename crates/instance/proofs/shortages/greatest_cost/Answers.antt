-- Two numbers of known sizes, over the instance's periods.
use Rattle.std.proofs.Common.{arith, ℕ, ◌+◌, ◌*◌, ◌^◌, ◌∙◌, lit<, pos, ◌+ℤ◌, ◌*ℤ◌, ℤ, List, length, slice_index_or}
use Rattle.std.specs.Int.{int_max}
use Rattle.uc_model.specs.Prelude.{sum_below, most_shed, most_short}
use Rattle.uc_model.specs.declared.limits.TheConstants.{MAX_PERIODS, MAX_POWER}
use Rattle.uc_model.proofs.Common.{sum-is, sum-size}
use Rattle.uc_model.proofs.Sizes.{wide}
use Rattle.instance.proofs.shortages.greatest_cost.Goals as goal

most : ℕ
most = 2 ^ 32 * (MAX_PERIODS * MAX_POWER)

-- the sum of the powers that are above 0
above_zero : List ℤ → ℤ
above_zero powers = sum_below (length powers) (λ t. int_max (slice_index_or powers t (pos 0)) (pos 0))

pub sum-requires : goal.sum-requires
unfolding most
sum-requires c = grind (arith, c)

pub returns : goal.returns
unfolding most above_zero
returns c =
    let instance = c.args.instance.now in
    let size = sum-size c.most_cost-unserved.result c.most_cost-missing.result c.sum.result most most c.sum.ensures
    c.most_cost-unserved.ensures.size c.most_cost-missing.ensures.size in
    wide c.sum.result (most + most) size (lit< tt)
    ∙ sum-is c.most_cost-unserved.result c.most_cost-missing.result c.sum.result most most c.sum.ensures
    c.most_cost-unserved.ensures.size c.most_cost-missing.ensures.size (lit< tt)
    ∙ (λ i. c.most_cost-unserved.ensures.value i +ℤ c.most_cost-missing.ensures.value i)
    ∙ (λ i. pos c.args.a *ℤ above_zero (c.as_slice.ensures i) +ℤ pos c.args.b *ℤ above_zero (c.as_slice-2.ensures i))
    ∙ (λ i. pos c.args.a *ℤ sum_below (c.requires.demand_length i) (most_shed instance)
    +ℤ pos c.args.b *ℤ sum_below (c.requires.reserves_length i) (most_short instance))
