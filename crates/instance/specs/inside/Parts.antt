-- What a part of the reader answers beside what it reads, and how many numbers a part may have.
use Rattle.std.specs.Prelude.{◌≡◌, ℕ, ◌+◌, ◌*◌, ◌≤◌, Bool, List, Result, Ok, Err}
use Rattle.decimal_json.specs.Value.{Decimal}
pub use Rattle.instance.specs.declared.reader.Reader.{Reader}
use Rattle.instance.specs.Scaled.{wholes_of, held_wholes}
use Rattle.instance.specs.Answer.{Fault, NoMemory, Refused, Fails}
use Rattle.instance.specs.FirstFault.{MAX_PERIODS, MAX_POINTS, MAX_START_ROWS, Refusal, with_unit}
use Rattle.uc_model.specs.declared.field_refusal.FieldRefusal.{FieldRefusal}

-- So many rounded numbers were counted, at most as many as said.
pub record Counts (old new : Reader) (count most : ℕ) : Type 0 where
  pub exact : new.exact ≡ old.exact
  pub rounded : new.rounded ≡ old.rounded + count
  pub few : count ≤ most

-- What was answered is the sign of a whole number and its size, which stands as one past every limit where it is
-- past them.
abbrev pub HoldsWhole : Result (Bool × ℕ) (Fault Refusal) → Result Decimal Refusal → Type 0
HoldsWhole (Ok x) read = (d : Decimal) × (read ≡ Ok d) × (x.0 ≡ d.negative) × (x.1 ≡ held_wholes (wholes_of d))
HoldsWhole (Err e) read = Fails e read

-- A fault of a unit is this fault with the unit, unless memory ran out.
abbrev pub IsInUnit : ℕ → List ℕ → Fault Refusal → Fault FieldRefusal → Type 0
IsInUnit kind unit fault NoMemory = Unit {0}
IsInUnit kind unit NoMemory (Refused told) = ⊥
IsInUnit kind unit (Refused e) (Refused told) = told ≡ with_unit kind unit e

-- ---- the most numbers that are read of a part of a file within the limits

-- two in each row, and in each point
abbrev pub START_NUMBERS : ℕ
START_NUMBERS = 2 * MAX_START_ROWS

abbrev pub POINT_NUMBERS : ℕ
POINT_NUMBERS = 2 * MAX_POINTS

-- 13 fields, the rows and the points
abbrev pub THERMAL_NUMBERS : ℕ
THERMAL_NUMBERS = 13 + START_NUMBERS + POINT_NUMBERS

-- two for each period
abbrev pub RENEWABLE_NUMBERS : ℕ
RENEWABLE_NUMBERS = 2 * MAX_PERIODS

-- the periods, and two for each
abbrev pub TOTAL_NUMBERS : ℕ
TOTAL_NUMBERS = 1 + 2 * MAX_PERIODS
