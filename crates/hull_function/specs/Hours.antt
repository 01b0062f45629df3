-- The hours of a run, and what they cost by an output, as a convex function. Source: the dynamic program of A. Frangioni and C.
-- Gentile, "Solving Nonlinear Single-Unit Commitment Problems with Ramping Constraints" (Operations Research 54, 2006).
use Rattle.std.specs.Prelude.{◌≡◌, ℕ, ◌*◌, ◌^◌, ◌+◌, ◌≤◌, Bool, true, ℤ, pos, ◌-ℤ◌, ◌*ℤ◌, neg_ℤ, ◌≤ℤ◌, unsigned_abs, Option, Some, None, if◌then◌else◌}
use Rattle.dual_model.specs.Prelude.{pi_at, total_of}
use Rattle.step_functions.specs.Functions.{IsPlace, value_at}
use Rattle.unit_runs.specs.CostThrough.{is_output, output_cost, reserve_worth}
use Rattle.hull_function.specs.Hulls.{Steps, MAX_HULL}
use Rattle.hull_function.specs.Problems.{Table, Thermal, MAX_POWER, MAX_PRICE}
pub use Rattle.hull_function.specs.declared.hour.Hour.{Hour}

-- an hour costs at most this in size, and the hours of a run this
abbrev pub MAX_HOUR : ℕ
MAX_HOUR = 10 ^ 29

abbrev pub MAX_RUN : ℕ
MAX_RUN = 169 * 10 ^ 29

-- of an hour's cost, what its output costs at most with all that it is paid, and its reserve
abbrev pub MAX_OUTPUT_COST : ℕ
MAX_OUTPUT_COST = MAX_HULL + 5 * (MAX_PRICE * MAX_POWER)

abbrev pub MAX_RESERVE : ℕ
MAX_RESERVE = MAX_PRICE * (6 * MAX_POWER)

-- an hour's prices are those of a unit in period t
pub record IsHourAt (table : Table) (unit : Thermal) (t : ℕ) (hour : Hour) : Type 0 where
  pub worth : hour.worth ≡ reserve_worth table t
  pub price : hour.price ≡ reserve_worth table t -ℤ pi_at table t
  pub fixed : hour.fixed ≡ neg_ℤ (pi_at table t *ℤ unit.pmin)

-- and within the limits
pub record IsSizedHour (hour : Hour) : Type 0 where
  pub cap : unsigned_abs hour.cap ≤ MAX_POWER
  pub worth : (pos 0 ≤ℤ hour.worth) × (hour.worth ≤ℤ pos MAX_PRICE)
  pub price : unsigned_abs hour.price ≤ 2 * MAX_PRICE
  pub fixed : unsigned_abs hour.fixed ≤ MAX_PRICE * MAX_POWER

-- the function gives these costs where it is defined, and there are none elsewhere; where it isn't alive there is none at all
pub record IsCostsOf (alive : Bool) (f : Steps) (cost : ℤ → Option ℤ) : Type 0 where
  pub inside : alive ≡ true → (p : ℤ) → IsPlace f p → cost p ≡ Some (value_at f p)
  pub outside : (p v : ℤ) → cost p ≡ Some v → (alive ≡ true) × IsPlace f p

-- its places are at most so many times the greatest power
abbrev pub IsNear : ℕ → Steps → Type 0
IsNear times f = (p : ℤ) → IsPlace f p → unsigned_abs p ≤ times * MAX_POWER

-- what an output costs in an hour in period t, of this cap, with what others cost by that output
abbrev pub with_output : Table → Thermal → ℕ → ℤ → (ℤ → Option ℤ) → ℤ → Option ℤ
with_output table unit t cap others p = if is_output unit cap p then total_of (Some (output_cost table unit t p)) (others p) else None
