-- The values that a table's basis gives its columns, as fractions in lowest terms, and the least denominator over which they are whole.
-- Source: the basic solution of the simplex method (G. B. Dantzig, "Linear Programming and Extensions", 1963); Euclid, Elements, book VII,
-- proposition 34, for the least common multiple.
use Rattle.std.specs.Prelude.{ℕ, zero, suc, ◌<◌, ◌==◌, if◌then◌else◌, length, ℤ, pos}
use Rattle.fractions.specs.declared.fraction.Fraction.{Fraction}
use Rattle.fractions.specs.Fractions.{lowest, joined, JoinForms}
use Rattle.pivot_run.specs.Prelude.{Table, basic, number, right_side}
use Rattle.dispatch_rules.specs.Prelude.{Task, amounts}

abbrev pub nothing : Fraction
nothing = record { numerator = pos 0; denominator = pos 1 }

-- the value of the basic column of row k: its right side over its number in that column
unfoldable pub row_value : Table → ℕ → Fraction
row_value t k = lowest (right_side t k) (number t k (basic t k))

-- the value of column c by the first n constraints: that of the one whose basic column it is, of which a basis has no two, and 0 where there is none
abbrev pub value_to : Table → ℕ → ℕ → Fraction
value_to t zero c = nothing
value_to t (suc n) c = if basic t n == c then row_value t n else value_to t n c

abbrev pub column_value : Table → ℕ → Fraction
column_value t c = value_to t t.constraints c

-- the least common multiple of the denominators of the first n columns' values
abbrev pub denominator_to : Table → ℕ → ℤ
denominator_to t zero = pos 1
denominator_to t (suc n) = joined (denominator_to t n) (column_value t n).denominator

-- that of all amounts of a commitment
abbrev pub schedule_denominator : Task → Table → ℤ
schedule_denominator task t = denominator_to t (length (amounts task))

-- making it forms the product of these two numbers
abbrev pub DenominatorForms : Task → Table → ℤ → ℤ → Type 0
DenominatorForms task t a b = (c : ℕ) × (c < length (amounts task)) × JoinForms (denominator_to t c) (column_value t c).denominator a b
