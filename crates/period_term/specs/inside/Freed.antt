-- A cell's prices without the choice of reserve. Source: the least reserve term of a cell in the Lagrangian relaxation
-- of the reference model by Knueven, Ostrowski and Watson, which is linear in the reserve: none of the room is taken,
-- or all of it.
use Rattle.std.specs.Prelude.{◌≡◌, ◌*◌, ◌≤◌, ℤ, pos, ◌-ℤ◌, unsigned_abs}
use Rattle.std.specs.Int.{int_min}
use Rattle.dual_model.specs.Prelude.{IsLawfulScale}
use Rattle.dual_model.specs.declared.limits.TheConstants.{MAX_UNIT_PRICE}

-- the scale, the price of output above that of the reserve whose room it takes, and the price of the reserve
pub record AreFreed (k a b scale output reserve : ℤ) : Type 0 where
  pub scale_is : scale ≡ k
  pub output_is : output ≡ a -ℤ int_min b (pos 0)
  pub reserve_is : reserve ≡ int_min b (pos 0)

-- such prices within the limits
pub record AreLawfulPrices (k a b : ℤ) : Type 0 where
  pub scale : IsLawfulScale k
  pub output : unsigned_abs a ≤ 2 * MAX_UNIT_PRICE
  pub reserve : unsigned_abs b ≤ MAX_UNIT_PRICE
