-- The two differences and what is taken away are the five multipliers.
use Rattle.std.proofs.Common.{◌≡◌, arith, ℤ, ◌+ℤ◌, ◌-ℤ◌}
use Rattle.std.proofs.lemmas.Int.{ints, to_z-of_z}
use Rattle.uc_model.proofs.Common.{difference-is, difference-size, sum-is, sum-size}
use Rattle.uc_model.proofs.Sizes.{wide}
use Rattle.ramp_duals.proofs.prices.output.Goals as goal

five : (own later wide both all up demand next_up down next_down : ℤ) → own ≡ up -ℤ demand → later ≡ next_down -ℤ down → wide ≡ next_up
    → both ≡ own +ℤ later → all ≡ both -ℤ wide → all ≡ up -ℤ demand -ℤ next_up -ℤ down +ℤ next_down
five own later wide both all up demand next_up down next_down e f g h k = omega (arith, ints)

pub returns : goal.returns
returns c = grind (arith, ints, sum-is, sum-size, difference-is, wide, difference-size, five, to_z-of_z, c)
