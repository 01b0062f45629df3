-- The curve is as wide as the points, and the denominator is the one that it is given.
use Rattle.std.proofs.Common.{arith, ◌∙◌, to_z, of_z, unsigned_abs}
use Rattle.std.specs.Int.{w64}
use Rattle.std.proofs.lemmas.Int.{to_z-of_z}
use Rattle.uc_model.specs.Prelude.{hull_cost}
use Rattle.cost_curves.proofs.HullValues.{whole_width}
use Rattle.schedule_check.proofs.pricing.output_cost.Goals as goal

pub ceil_at-cost-requires-clause-high : goal.ceil_at-cost-requires-clause-high
ceil_at-cost-requires-clause-high c = grind (arith, to_z-of_z, whole_width, c)

pub returns-in_default-clause-known : goal.returns-in_default-clause-known
returns-in_default-clause-known c =
    let divisor = to_z-of_z w64 c.from.result (record { sfits = c.from.type_inv }) ∙ c.from.ensures in
    to_z-of_z w64 c.ceil_at-cost.result (record { sfits = c.ceil_at-cost.type_inv }) ∙ c.ceil_at-cost.ensures.hull c.args.unit.now.points c.requires.curve
    ∙ (λ i. hull_cost c.args.unit.now.points (unsigned_abs (divisor i)) (to_z w64 (of_z w64 c.args.output)))

pub returns-in_default-clause-cost : goal.returns-in_default-clause-cost
returns-in_default-clause-cost c = grind (arith, to_z-of_z, returns-in_default-clause-known, c)
