-- The cells of a schedule that obeys can be priced, and its printed cost fits 64 bits.
use Rattle.std.proofs.Common.{◌≡◌, ◌≤◌, sym, subst, arith, to_z, of_z, unsigned_abs}
use Rattle.std.specs.Int.{w64, w128}
use Rattle.std.proofs.lemmas.Int.{fits_signed_from_abs}
use Rattle.uc_model.specs.declared.limits.TheConstants.{COST_MAX}
use Rattle.uc_model.specs.Prelude.{printed_denominator}
use Rattle.uc_model.proofs.Common.{watts-factor, printed_cost-fits, narrow}
use Rattle.uc_model.proofs.Sizes.{wide}
use Rattle.schedule_check.proofs.Priced.{priced_over}
use Rattle.schedule_check.proofs.feasibility.cost.Goals as goal

pub printed_cost-requires-clause-prices : goal.printed_cost-requires-clause-prices
printed_cost-requires-clause-prices c = priced_over c.args.instance.now c.args.printed.now c.requires.lawful c.requires.shape.denominator.0 c.requires.obeys

size : (c : goal.After-printed_cost) → unsigned_abs c.printed_cost.result ≤ COST_MAX
size c =
    let factor = watts-factor c.args.instance.now c.args.printed.now in
    subst (λ z. unsigned_abs z ≤ COST_MAX) (sym c.printed_cost.ensures)
    (printed_cost-fits c.args.instance.now c.args.printed.now (printed_denominator c.args.instance.now c.args.printed.now) factor.0
    c.requires.lawful factor.1 c.requires.obeys)

same : (c : goal.After-printed_cost) → to_z w128 (of_z w128 c.printed_cost.result) ≡ c.printed_cost.result
same c = let small = size c in wide c.printed_cost.result COST_MAX small (omega arith)

pub overflow_cast-result : goal.overflow_cast-result
overflow_cast-result c =
    let small = subst (λ z. unsigned_abs z ≤ COST_MAX) (sym (same c)) (size c) in
    fits_signed_from_abs w64 (to_z w128 (of_z w128 c.printed_cost.result)) (omega (arith, small))

pub returns : goal.returns
returns c = grind (arith, same, narrow, size, c)
