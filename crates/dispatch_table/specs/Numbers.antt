-- The program of a dispatch, by lists of its amounts, limits, right sides and costs, and the columns and lines of its table.
-- Source: the simplex method, with slack and artificial columns (G. B. Dantzig, "Linear Programming and Extensions", 1963).
use Rattle.std.specs.Prelude.{◌≡◌, ℕ, ◌^◌, ◌<◌, List, length, map, slice_index_or, ℤ, unsigned_abs}
use Rattle.pivot_run.specs.Prelude.{entry}
use Rattle.dispatch_program.specs.Prelude.{Program, Column, Unknown, Slack, Artificial, SumValue, CostValue, RightSide, Line, RuleLine, SumLine, CostLine}
use Rattle.dispatch_rules.specs.declared.amount.Amount.{Amount}
use Rattle.dispatch_rules.specs.declared.amount.Amount.TheVariants.{Shed}
use Rattle.uc_model.specs.Prelude.{Demand}
use Rattle.dispatch_rules.specs.Prelude.{limit_of, Limit, limit, is_demand, parts, times_in}
pub use Rattle.dispatch_table.specs.declared.program.Numbers.{Numbers}
use Rattle.dispatch_table.specs.declared.column.Column.{Column as ColumnName}
use Rattle.dispatch_table.specs.declared.column.Column.TheVariants.{Unknown as UnknownAt, Slack as SlackOf, Artificial as ArtificialOf, SumValue as SumOf, CostValue as CostOf, RightSide as RightOf}
use Rattle.dispatch_table.specs.declared.column.Line.{Line as LineName}
use Rattle.dispatch_table.specs.declared.column.Line.TheVariants.{Rule as RuleAt, Sum as SumAt, Cost as CostAt}

-- rule i, and unknown c
abbrev pub limit_from : List Limit → ℕ → Limit
limit_from limits i = slice_index_or limits i (limit Demand 0 0 0)

abbrev pub amount_from : List Amount → ℕ → Amount
amount_from amounts c = slice_index_or amounts c (Shed 0)

-- the program of these lists; past its rules a right side, and past its unknowns a cost is 0
abbrev pub program_from : List Amount → List Limit → List ℤ → List ℤ → Program
program_from amounts limits rights costs = record {
  unknowns = length amounts;
  rules = length limits;
  factor = λ i c. times_in (limit_from limits i) (parts (amount_from amounts c));
  right = entry rights;
  is_equality = λ i. is_demand (limit_from limits i);
  cost = entry costs;
}

abbrev pub program_of : Numbers → Program
program_of numbers = program_from numbers.amounts.items (map limit_of numbers.limits.items) numbers.rights.items numbers.costs.items

-- a right side for each limit, and a small cost for each amount
pub record AreWhole (numbers : Numbers) : Type 0 where
  pub rights : length numbers.rights.items ≡ length numbers.limits.items
  pub costs : length numbers.costs.items ≡ length numbers.amounts.items
  pub small : (c : ℕ) → c < length numbers.amounts.items → unsigned_abs (entry numbers.costs.items c) < 2 ^ 126

-- the column and the line that the code names
abbrev pub column_of : ColumnName → Column
column_of (UnknownAt c) = Unknown c
column_of (SlackOf i) = Slack i
column_of (ArtificialOf i) = Artificial i
column_of SumOf = SumValue
column_of CostOf = CostValue
column_of RightOf = RightSide

abbrev pub line_of : LineName → Line
line_of (RuleAt i) = RuleLine i
line_of SumAt = SumLine
line_of CostAt = CostLine

-- the table has the line
abbrev pub HasLine : Program → Line → Type 0
HasLine p (RuleLine i) = i < p.rules
HasLine p SumLine = Unit {0}
HasLine p CostLine = Unit {0}
