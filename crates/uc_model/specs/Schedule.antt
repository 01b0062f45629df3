-- Schedules: rational dispatch as whole numerators over one denominator q >= 1. Source: the variables
-- of the reference model by Knueven, Ostrowski and Watson, with the piecewise production cost as
-- weights on a unit's points; what is missing of demand and of reserve at a price is slack of the power balance
-- and of the reserve requirement, as in Egret and UnitCommitment.jl.
use Rattle.std.specs.Prelude.{ℕ, zero, suc, Bool, false, [], ℤ, pos, ◌*ℤ◌, length, slice_index_or}
use Rattle.std.specs.Int.{int_max}
use Rattle.uc_model.specs.Points.{Point, point_of, output_of, weighted_total, weighted_output}
use Rattle.uc_model.specs.Commitment.{Thermal, initial_p}
pub use Rattle.uc_model.specs.declared.instance.Instance.{Instance}
use Rattle.uc_model.specs.declared.instance.Renewable.{Renewable}

-- one thermal unit's part: in each period, from 0, whether it is on, the category of a start (from 1; 0 is
-- none), the weight of each point (from 0, over q) and the reserve (over q)
pub record Row : Type 0 where
  pub on : ℕ → Bool
  pub category : ℕ → ℕ
  pub weight : ℕ → ℕ → ℕ
  pub reserve : ℕ → ℤ

-- a row for each thermal unit, and in each period each renewable unit's output, the demand that stays unserved, s,
-- and the reserve that is missing, e (all over q)
pub record Schedule : Type 0 where
  pub thermal : ℕ → Row
  pub output : ℕ → ℕ → ℤ
  pub shed : ℕ → ℤ
  pub short : ℕ → ℤ

-- thermal unit g of the instance, from 0; past the last one a unit of no power, no cost and no row
abbrev pub no_unit : Thermal
no_unit = record {
  name = [];
  must_run = false;
  pmin = pos 0;
  pmax = pos 0;
  ru = pos 0;
  rd = pos 0;
  su = pos 0;
  sd = pos 0;
  ut = 0;
  dt = 0;
  p0 = pos 0;
  on0 = false;
  ut0 = 0;
  dt0 = 0;
  startup = [];
  points = [];
}

abbrev pub thermal_unit : Instance → ℕ → Thermal
thermal_unit instance g = slice_index_or instance.thermal g no_unit

abbrev pub thermal_count : Instance → ℕ
thermal_count instance = length instance.thermal

-- renewable unit w of the instance, from 0, and its limits in period t
abbrev pub renewable_unit : Instance → ℕ → Renewable
renewable_unit instance w = slice_index_or instance.renewable w (record { name = []; minimum = []; maximum = [] })

abbrev pub renewable_count : Instance → ℕ
renewable_count instance = length instance.renewable

abbrev pub renewable_minimum : Instance → ℕ → ℕ → ℤ
renewable_minimum instance w t = slice_index_or (renewable_unit instance w).minimum t (pos 0)

abbrev pub renewable_maximum : Instance → ℕ → ℕ → ℤ
renewable_maximum instance w t = slice_index_or (renewable_unit instance w).maximum t (pos 0)

-- demand D and required reserve R in period t
abbrev pub demand_at : Instance → ℕ → ℤ
demand_at instance t = slice_index_or instance.demand t (pos 0)

abbrev pub reserve_at : Instance → ℕ → ℤ
reserve_at instance t = slice_index_or instance.reserves t (pos 0)

-- the most of both that may be missing where it has a price, max(D,0) and max(R,0)
abbrev pub most_shed : Instance → ℕ → ℤ
most_shed instance t = int_max (demand_at instance t) (pos 0)

abbrev pub most_short : Instance → ℕ → ℤ
most_short instance t = int_max (reserve_at instance t) (pos 0)

-- point l of a unit, from 0
abbrev pub point : Thermal → ℕ → Point
point unit = point_of unit.points

abbrev pub point_count : Thermal → ℕ
point_count unit = length unit.points

-- point l's output above the first point's
abbrev pub point_p : Thermal → ℕ → ℤ
point_p unit = output_of unit.points

-- output above the minimum in period t, p(t), over q
abbrev pub p_at : Thermal → Row → ℕ → ℤ
p_at unit row t = weighted_output unit.points (row.weight t)

-- the same in the period before, p(t-1), over q; before the first one it is given
abbrev pub p_before : ℕ → Thermal → Row → ℕ → ℤ
p_before q unit row zero = pos q *ℤ initial_p unit
p_before q unit row (suc t) = p_at unit row t

-- the sum of the weights in period t
abbrev pub weight_sum : Thermal → Row → ℕ → ℤ
weight_sum unit row t = weighted_total unit.points (row.weight t)
