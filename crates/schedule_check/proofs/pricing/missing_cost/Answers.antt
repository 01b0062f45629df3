-- The quotient is the ceiling, and no greater in size than the number.
use Rattle.std.proofs.Common.{◌≡◌, ◌≤◌, ◌∙◌, ap, arith, pos, ◌*ℤ◌, ◌<ℤ◌, unsigned_abs}
use Rattle.std.specs.Int.{w64}
use Rattle.std.proofs.lemmas.Int.{to_z-of_z}
use Rattle.uc_model.specs.Prelude.{IsCeiling}
use Rattle.uc_model.proofs.Common.{IsCeiling_unique, quotient_up-is, linear}
use Rattle.uc_model.proofs.Sizes.{wide}
use Rattle.schedule_check.specs.declared.pricing.TheConstants.{MOST_MISSING_COST}
use Rattle.schedule_check.proofs.pricing.missing_cost.Goals as goal

cost-is : (c : goal.After-ceil_div) → c.cost_over.result ≡ pos c.args.price *ℤ c.args.missing
cost-is c = c.cost_over.ensures.value ∙ ap (λ z. pos c.args.price *ℤ z) (to_z-of_z w64 c.args.missing c.ranges.missing)

found : (c : goal.After-ceil_div) → IsCeiling (pos c.args.price *ℤ c.args.missing) (pos c.args.denominator) c.ceil_div.result
found c = grind (arith, linear, wide, cost-is)

size : (c : goal.After-ceil_div) → unsigned_abs c.ceil_div.result ≤ MOST_MISSING_COST
size c = grind (arith, linear)

pub returns-clause-value : goal.returns-clause-value
returns-clause-value c =
    let cost = pos c.args.price *ℤ c.args.missing in
    let some = c.requires in
    let positive : pos 0 <ℤ pos c.args.denominator = omega (arith, linear) in
    wide c.ceil_div.result MOST_MISSING_COST (size c) (omega arith)
    ∙ IsCeiling_unique cost (pos c.args.denominator) _ _ positive (found c) (quotient_up-is cost (pos c.args.denominator) positive)

pub returns-clause-size : goal.returns-clause-size
returns-clause-size c = grind (arith, linear, c)
