-- The prices among the multipliers of the limits, and the table that they make.
-- Source: the simplex multipliers (G. B. Dantzig, "Linear Programming and Extensions", 1963) as prices of demand, of reserve and of ramps.
use Rattle.std.specs.Prelude.{◌≡◌, ℕ, ◌<◌, ◌≤◌, List, length, slice_index_or, ℤ, pos, neg_ℤ, unsigned_abs}
use Rattle.dual_model.specs.Prelude.{IsWellFormed}
use Rattle.dual_model.specs.declared.table.Table.{Table}
use Rattle.dispatch_rules.specs.Prelude.{rule_of, limit}
use Rattle.dispatch_rules.specs.declared.limit.LimitRule.{LimitRule}
use Rattle.dispatch_rules.specs.declared.limit.LimitRule.TheVariants.{RampUp, RampDown, Demand, Reserve}
use Rattle.dispatch_prices.specs.ReadOff.{AreOnce, all_rows, times_by}
pub use Rattle.dispatch_prices.specs.declared.table.Priced.{Priced}

-- each limit is there once, with its multiplier, which is at most 10^14 in size
pub record IsLawfulPriced (priced : Priced) : Type 0 where
  pub once : AreOnce priced.limits.now
  pub count : length priced.times.now ≡ length priced.limits.now
  pub within : (i : ℕ) → unsigned_abs (slice_index_or priced.times.now i (pos 0)) ≤ 100000000000000

-- the multiplier of a rule's limit at a unit and a period; 0 where there is no such limit
abbrev pub price_of : Priced → LimitRule → ℕ → ℕ → ℤ
price_of priced rule g t = times_by priced.limits.now (λ i. slice_index_or priced.times.now i (pos 0)) (limit (rule_of rule) g t 0)

-- the price of demand is minus the multiplier of its equality
abbrev pub demand_price : Priced → ℕ → ℤ
demand_price priced t = neg_ℤ (price_of priced Demand 0 t)

abbrev pub reserve_price : Priced → ℕ → ℤ
reserve_price priced t = price_of priced Reserve 0 t

abbrev pub up_price : Priced → ℕ → ℕ → ℤ
up_price priced g t = price_of priced RampUp g t

abbrev pub down_price : Priced → ℕ → ℕ → ℤ
down_price priced g t = price_of priced RampDown g t

-- the prices of the first n periods, at most 10^14 in size
pub record ArePrices (price : ℕ → ℤ) (n : ℕ) (prices : List ℤ) : Type 0 where
  pub count : length prices ≡ n
  pub each : (t : ℕ) → t < n → slice_index_or prices t (pos 0) ≡ price t
  pub within : (t : ℕ) → unsigned_abs (slice_index_or prices t (pos 0)) ≤ 100000000000000

pub record IsTableOf (priced : Priced) (units periods : ℕ) (k : ℤ) (table : Table) : Type 0 where
  pub form : IsWellFormed table
  pub units_are : table.units ≡ units
  pub scale : table.k ≡ k
  pub demand : ArePrices (demand_price priced) periods table.pi
  pub reserve : ArePrices (reserve_price priced) periods table.mu
  pub ramps : table.ramps ≡ all_rows (up_price priced) (down_price priced) units periods
