-- How large the parts of a node's value are that don't hang on thermal units. The limits in size are this project's.
use Rattle.std.specs.Prelude.{ℕ, ◌*◌}
pub use Rattle.uc_model.specs.declared.limits.TheConstants.{MAX_PERIODS, MAX_POWER, MAX_UNITS}
pub use Rattle.dual_model.specs.declared.limits.TheConstants.{MAX_PRICE}

-- a price times a power is at most this in size
abbrev pub MAX_CELL : ℕ
MAX_CELL = MAX_PRICE * MAX_POWER

-- what demand and reserves add in a period, with what may be missing of them, is at most this
abbrev pub MAX_HOUR : ℕ
MAX_HOUR = 4 * MAX_CELL

-- and over all periods
abbrev pub MAX_SYSTEM : ℕ
MAX_SYSTEM = MAX_PERIODS * MAX_HOUR

-- what one renewable unit adds, and what all of them do
abbrev pub MAX_RENEWABLE : ℕ
MAX_RENEWABLE = MAX_PERIODS * MAX_CELL

abbrev pub MAX_RENEWABLES : ℕ
MAX_RENEWABLES = MAX_UNITS * MAX_RENEWABLE
