-- Going along two tables, number by number: what is told of each.
use Rattle.std.specs.Prelude.{◌≡◌, ℕ, ℤ, ◌+◌, ◌<◌, List, [], ◌++◌, Option, MatchOption, option_to_list, length}
use Rattle.table_list.specs.Changes.{RampRow, Change, OfDemand, OfReserve, row_changes}
pub use Rattle.table_list.specs.declared.passing.Passed.{Passed}
pub use Rattle.table_list.specs.declared.passing.Prices.{Prices}
use Rattle.table_list.specs.declared.passing.Prices.TheVariants as prices

-- the change of one of these prices
abbrev pub price_change : Prices → ℕ → ℤ → Change
price_change prices.Demand = OfDemand
price_change prices.Reserve = OfReserve

-- the first row of two tables is passed: what is told of it, and then the changes of the rows that are left, are all changes; and a row
-- less is left
pub record IsPassed (olds news : List RampRow) (passed : Passed) : Type 0 where
  pub changes : row_changes olds news ≡ option_to_list passed.change ++ row_changes passed.olds.now passed.news.now
  pub fewer : length passed.olds.now + length passed.news.now < length olds + length news

-- where there is a row
abbrev pub IsPassing : List RampRow → List RampRow → Option Passed → Type 0
IsPassing olds news passed = MatchOption passed (row_changes olds news ≡ []) (IsPassed olds news)
