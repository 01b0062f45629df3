-- How large the numbers of uplifts are. The limits in size are this project's.
use Rattle.std.specs.Prelude.{ℕ, ◌+◌, ◌*◌, ◌^◌}
pub use Rattle.uc_model.specs.declared.limits.TheConstants.{MAX_PERIODS, MAX_POWER, MAX_UNITS}
pub use Rattle.dual_model.specs.declared.limits.TheConstants.{MAX_PRICE, MAX_UNIT_PRICE}

-- a number of a schedule has at most 15 digits, and is at most this in size
abbrev pub MAX_WATTS : ℕ
MAX_WATTS = 10 ^ 15

-- what the prices charge a cell for its output, or for its reserve, is at most this in size, and for all of it this
abbrev pub MAX_PRICED : ℕ
MAX_PRICED = MAX_UNIT_PRICE * MAX_WATTS

abbrev pub MAX_CHARGE : ℕ
MAX_CHARGE = 3 * MAX_PRICED

-- K times what a unit costs
abbrev pub MAX_UNIT_COST : ℕ
MAX_UNIT_COST = 10 ^ 9 * (168 * 2 ^ 64)

-- the uplift of a unit
abbrev pub MAX_UPLIFT : ℕ
MAX_UPLIFT = 10 ^ 33

-- what is missing of demand and reserve in a period adds at most this, and the reserve beyond what is required this
abbrev pub MAX_SHORTAGE : ℕ
MAX_SHORTAGE = 10 ^ 35

abbrev pub MAX_SPARE : ℕ
MAX_SPARE = 10 ^ 20

abbrev pub MAX_SLACK : ℕ
MAX_SLACK = MAX_PRICE * MAX_SPARE

-- the gap between K times the cost and the value
abbrev pub MAX_GAP : ℕ
MAX_GAP = 10 ^ 37

-- what of the gap isn't in lists
abbrev pub MAX_KNOWN : ℕ
MAX_KNOWN = MAX_PERIODS * (MAX_SHORTAGE + MAX_SLACK)
