-- Regular start rows: a colder category's lag and cost are at least a hotter one's, and each start that keeps the minimum
-- down time has reached the first lag. Source: the start-up categories of the pglib-uc format, from the hottest to the
-- coldest, and the minimum down time of the reference model by Knueven, Ostrowski and Watson.
use Rattle.std.specs.Prelude.{◌≡◌, ℕ, suc, ◌<◌, ◌≤◌, IsTrue, ℤ, ◌≤ℤ◌}
use Rattle.uc_model.specs.Prelude.{Commitment, starts, is_allowed, IsLawfulThermal, category_count, category_lag, category_cost, is_category_allowed, last_stop, sigma}
pub use Rattle.uc_model.specs.declared.instance.Thermal.{Thermal}

-- categories are numbered from 1
pub record AreStartsRegular (unit : Thermal) : Type 0 where
  -- lags don't decrease
  pub lags : (s : ℕ) → 1 ≤ s → s < category_count unit → category_lag unit s ≤ category_lag unit (suc s)
  -- costs don't decrease
  pub costs : (s : ℕ) → 1 ≤ s → s < category_count unit → category_cost unit s ≤ℤ category_cost unit (suc s)
  -- the first lag is at most the minimum down time
  pub first : category_lag unit 1 ≤ unit.dt

-- the cost of a category that a start in period t may use, and none that it may use costs less
pub record IsLeastAllowedCost (unit : Thermal) (on : Commitment) (t : ℕ) (cost : ℤ) : Type 0 where
  pub category : ℕ
  pub allowed : IsTrue (is_category_allowed unit on category t)
  pub reached : cost ≡ category_cost unit category
  pub least : (s : ℕ) → IsTrue (is_category_allowed unit on s t) → cost ≤ℤ category_cost unit s

-- at each start of an allowed pattern of a unit with regular start rows, sigma is the least allowed cost
abbrev pub RegularStarts : Type 0
RegularStarts = (periods : ℕ) (unit : Thermal) (on : Commitment) (t : ℕ) → IsLawfulThermal unit → AreStartsRegular unit
    → IsTrue (is_allowed periods unit on) → t < periods → IsTrue (starts unit on t)
    → IsLeastAllowedCost unit on t (sigma unit (last_stop unit on t) t)
