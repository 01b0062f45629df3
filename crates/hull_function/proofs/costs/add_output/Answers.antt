-- The hull's values, a slope and a constant are added.
use Rattle.std.proofs.Common.{arith, ◌≡◌, lit<, ◌*◌, ap, ◌∙◌, ℤ, ◌+ℤ◌, ◌*ℤ◌, to_z, of_z}
use Rattle.std.specs.Int.{w128}
use Rattle.uc_model.proofs.Sizes.{wide}
use Rattle.step_functions.specs.Functions.{IsPlace, value_at}
use Rattle.hull_function.specs.Problems.{MAX_POWER, MAX_PRICE}
use Rattle.hull_function.proofs.HourSums.{fixed-small, output-value, price-wide, slope-small, sum-places}
use Rattle.hull_function.proofs.Represented.{SamePlaces}
use Rattle.hull_function.proofs.costs.add_output.Goals as goal
use Rattle.hull_function.proofs.costs.add_output.Goals.{After-add, After-add_slope}

summed : (c : After-add) → SamePlaces c.args.function.now c.add.new.self
summed c = grind (arith, sum-places)

sloped : (c : After-add_slope) → (q : ℤ) → IsPlace c.add_slope.new.self q
    → value_at c.add_slope.new.self q ≡ value_at c.add.new.self q +ℤ c.args.hour.now.price *ℤ q
sloped c q at = c.add_slope.ensures.value q at ∙ ap (λ z. value_at c.add.new.self q +ℤ z *ℤ q) (price-wide c.args.hour.now c.requires.hour c.from.result c.from.ensures)

fixed : (c : After-add_slope) → to_z w128 (of_z w128 c.args.hour.now.fixed) ≡ c.args.hour.now.fixed
fixed c = wide c.args.hour.now.fixed (MAX_PRICE * MAX_POWER) c.requires.hour.fixed (lit< tt)

pub add_slope-requires : goal.add_slope-requires
add_slope-requires c = grind (arith, price-wide, slope-small, summed, After-add, c)

pub add_constant-requires : goal.add_constant-requires
add_constant-requires c = grind (arith, fixed, After-add_slope, fixed-small, summed, After-add, sloped, c)

pub returns-clause-value : goal.returns-clause-value
returns-clause-value c = grind (arith, output-value, summed, After-add, sloped, After-add_slope, fixed, c)
