-- A test that fails is the fact that the next obstacle stands on.
use Rattle.std.proofs.Common.{◌≡◌, ◌≤ℤ◌, ℤ, ◌*◌, ◌≤◌, arith, unsigned_abs}
use Rattle.uc_model.specs.Prelude.{IsPower}
use Rattle.uc_model.proofs.Common.{linear, narrow}
use Rattle.dispatch_repair.specs.Prelude.{MAX_POWER, MAX_UNITS, IsSizedTotal}
use Rattle.dispatch_repair.proofs.Numbers.{beyond, kept, kept_at_most, not_beyond}
use Rattle.dispatch_repair.proofs.obstacle.imbalance.Goals as goal

power_size : (z : ℤ) → IsPower z → IsSizedTotal z
power_size z h = omega arith

least_size : (z : ℤ) → unsigned_abs z ≤ MAX_UNITS * (9 * MAX_POWER) → IsSizedTotal z
least_size z h = omega arith

-- an order between two numbers is one between what they are
below_by : (a b x y : ℤ) → a ≡ x → b ≡ y → a ≤ℤ b → x ≤ℤ y
below_by a b x y e f h = omega (arith, linear)

pub returns-then-is_under : goal.returns-then-is_under
returns-then-is_under c = grind (arith, linear, power_size, kept, beyond, below_by, kept_at_most, least_size, c)

pub returns-then-is_short : goal.returns-then-is_short
returns-then-is_short c = grind (arith, linear, power_size, kept, narrow, beyond, below_by, kept_at_most, least_size, not_beyond, c)

pub returns : goal.returns
returns c = grind (arith, linear, power_size, kept, narrow, below_by, kept_at_most, least_size, not_beyond, c)
