-- The list of the columns' values. This project's own.
use Rattle.std.specs.Prelude.{◌≡◌, ℕ, zero, suc, ◌+◌, ◌<◌, List, length, slice_index_or, ℤ, pos, ◌≤ℤ◌, ◌<ℤ◌}
use Rattle.fractions.specs.declared.fraction.Fraction.{Fraction}
use Rattle.fractions.specs.Fractions.{joined, JoinForms}
use Rattle.pivot_run.specs.Prelude.{Table, basic, number, right_side}
use Rattle.dispatch_schedule.specs.ColumnValues.{nothing, value_to}

-- the table has a number above 0 in each constraint's basic column, a right side of 0 or above, and two rows behind the constraints
pub record HasValues (t : Table) : Type 0 where
  pub rows : length t.rows ≡ t.constraints + 2
  pub columns : (k : ℕ) → k < t.constraints → basic t k < t.columns
  pub positive : (k : ℕ) → k < t.constraints → pos 0 <ℤ number t k (basic t k)
  pub sides : (k : ℕ) → k < t.constraints → pos 0 ≤ℤ right_side t k

abbrev pub fraction_at : List Fraction → ℕ → Fraction
fraction_at fractions c = slice_index_or fractions c nothing

-- the fractions are the values of the first columns by the first n constraints
pub record AreValuesTo (t : Table) (n columns : ℕ) (fractions : List Fraction) : Type 0 where
  pub count : length fractions ≡ columns
  pub each : (c : ℕ) → c < columns → fraction_at fractions c ≡ value_to t n c

-- the denominators are above 0
abbrev pub ArePositive : List Fraction → Type 0
ArePositive fractions = (c : ℕ) → c < length fractions → pos 0 <ℤ (fraction_at fractions c).denominator

-- the least common multiple of the first n denominators
abbrev pub joined_to : List Fraction → ℕ → ℤ
joined_to fractions zero = pos 1
joined_to fractions (suc n) = joined (joined_to fractions n) (fraction_at fractions n).denominator

-- making that of the first n forms the product of these two numbers
abbrev pub JoiningForms : List Fraction → ℕ → ℤ → ℤ → Type 0
JoiningForms fractions n a b = (c : ℕ) × (c < n) × JoinForms (joined_to fractions c) (fraction_at fractions c).denominator a b
