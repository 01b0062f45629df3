-- The shortfall from what the cap leaves of the ramp is added, less the most.
use Rattle.std.proofs.Common.{◌≡◌, sym, ap, subst, ◌∙◌, arith, ℤ, ◌+ℤ◌, ◌-ℤ◌, ◌*ℤ◌, neg_ℤ, to_z, of_z}
use Rattle.std.specs.Int.{w64, w128, int_min}
use Rattle.std.proofs.lemmas.Int.{ints}
use Rattle.uc_model.specs.Prelude.{IsLimit}
use Rattle.step_functions.specs.Functions.{Steps, IsPlace, IsSmall, shortfall, value_at}
use Rattle.unit_runs.specs.CostThrough.{reserve_cost}
use Rattle.hull_function.specs.Hours.{Hour, IsSizedHour}
use Rattle.hull_function.proofs.HourSums.{cap-size, constant-is, earned-is, place-is, reserve-bounded, reserve-small, reserve-value, short-small, worth-wide}
use Rattle.hull_function.proofs.Represented.{SamePlaces, with-more}
use Rattle.hull_function.proofs.costs.add_reserve.Goals as goal
use Rattle.hull_function.proofs.costs.add_reserve.Goals.{After-add_constant}

-- the shortfall that is added, by the hour's numbers, and then the reserve
short : (hour : Hour) (f g : Steps) (up worth : ℤ) → IsSizedHour hour → IsLimit up → worth ≡ to_z w64 (of_z w64 hour.worth)
    → ((q : ℤ) → IsPlace g q → value_at g q
    ≡ value_at f q +ℤ to_z w128 (of_z w128 worth) *ℤ shortfall (to_z w64 (of_z w64 (to_z w64 (of_z w64 hour.cap) -ℤ to_z w64 (of_z w64 up)))) q)
    → (q : ℤ) → IsPlace g q → value_at g q ≡ value_at f q +ℤ hour.worth *ℤ shortfall (hour.cap -ℤ up) q
short hour f g up worth sized limit e value q at = grind (arith, ints, worth-wide, place-is, sized, limit, e, value, at)

same : (c : After-add_constant) → SamePlaces c.args.function.now c.add_constant.new.self
same c = record { first = c.add_constant.ensures.first ∙ c.add_shortfall.ensures.first; last = c.add_constant.ensures.last ∙ c.add_shortfall.ensures.last }

reserve : (c : After-add_constant) → (q : ℤ) → IsPlace c.add_constant.new.self q
    → value_at c.add_constant.new.self q
    ≡ value_at c.args.function.now q +ℤ neg_ℤ (c.args.hour.now.worth *ℤ int_min c.args.hour.now.cap (q +ℤ c.args.unit.now.ru))
reserve c =
    let hour = c.args.hour.now in
    let g = c.add_shortfall.new.self in
    reserve-value hour c.requires.hour c.args.unit.now.ru c.requires.unit.ramp_up c.args.function.now g c.requires.near c.requires.size
    (record { first = c.add_shortfall.ensures.first; last = c.add_shortfall.ensures.last })
    (short hour c.args.function.now g c.args.unit.now.ru c.from-worth.result c.requires.hour c.requires.unit.ramp_up c.from-worth.ensures c.add_shortfall.ensures.value) c.add_constant.new.self
    (record { first = c.add_constant.ensures.first; last = c.add_constant.ensures.last })
    (λ q there. c.add_constant.ensures.value q there
    ∙ ap (λ z. value_at g q +ℤ z) (constant-is hour c.requires.hour c.from-worth.result c.from.result c.from-worth.ensures c.from.ensures))

pub add_shortfall-requires-clause-size : goal.add_shortfall-requires-clause-size
add_shortfall-requires-clause-size c =
    let hour = c.args.hour.now in
    let f = c.args.function.now in
    let worth = worth-wide hour c.requires.hour c.from-worth.result c.from-worth.ensures in
    let place = place-is hour c.requires.hour c.args.unit.now.ru c.requires.unit.ramp_up in
    λ p at. subst IsSmall (sym (λ i. value_at f p +ℤ worth i *ℤ shortfall (place i) p))
    (short-small hour c.requires.hour c.args.unit.now.ru c.requires.unit.ramp_up f f c.requires.near c.requires.size p at)

pub overflow_sub-worth : goal.overflow_sub-worth
overflow_sub-worth c =
    let hour = c.args.hour.now in
    let product = earned-is hour c.requires.hour c.from-worth.result c.from.result c.from-worth.ensures c.from.ensures in
    let size = cap-size hour c.requires.hour in
    omega (arith, ints, product, size)

pub add_constant-requires : goal.add_constant-requires
add_constant-requires c =
    let hour = c.args.hour.now in
    let g = c.add_shortfall.new.self in
    λ p at. subst (λ z. IsSmall (value_at g p +ℤ z)) (sym (constant-is hour c.requires.hour c.from-worth.result c.from.result c.from-worth.ensures c.from.ensures))
    (reserve-small hour c.requires.hour c.args.unit.now.ru c.requires.unit.ramp_up c.args.function.now g c.requires.near c.requires.size
    (record { first = c.add_shortfall.ensures.first; last = c.add_shortfall.ensures.last })
    (short hour c.args.function.now g c.args.unit.now.ru c.from-worth.result c.requires.hour c.requires.unit.ramp_up c.from-worth.ensures c.add_shortfall.ensures.value) p at)

pub returns-clause-costs : goal.returns-clause-costs
returns-clause-costs c = λ table t cost at is.
    let here = (goal.at.returns-clause-costs c).After-add_constant in
    let hour = c.args.hour.now in
    let unit = c.args.unit.now in
    with-more c.args.function.now c.add_constant.new.self cost (reserve_cost table unit t hour.cap) is (same here)
    (λ q place. reserve here q place ∙ (λ i. value_at c.args.function.now q +ℤ neg_ℤ (at.worth i *ℤ int_min hour.cap (q +ℤ unit.ru))))

pub returns-clause-size : goal.returns-clause-size
returns-clause-size c = λ size small.
    let here = (goal.at.returns-clause-size c).After-add_constant in
    reserve-bounded c.args.hour.now c.requires.hour c.args.unit.now.ru c.requires.unit.ramp_up c.args.function.now c.add_constant.new.self size c.requires.near (same here) (reserve here) small

pub returns-clause-near : goal.returns-clause-near
returns-clause-near c = grind (arith, ints, c)
