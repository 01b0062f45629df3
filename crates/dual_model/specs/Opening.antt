-- The tables with which a search begins: that of no prices, and rays that find out common reasons for which no schedule
-- exists. A ray of positive value excludes every schedule by weak duality, which is Farkas' lemma for the priced rules; which
-- rays are tried, and in what order, is this project's own choice.
--
-- Units and periods count from 0 here.
use Rattle.std.specs.Prelude.{◌≡◌, ◌≢◌, ℕ, zero, suc, ◌+◌, ◌-◌, ◌*◌, ◌/◌, ◌%◌, ◌<◌, Bool, false, ◌&&◌, ◌||◌, ◌==◌, nat_lt, List, [], ◌∷◌, ◌++◌, ℤ, pos, neg_ℤ, ◌+ℤ◌, ◌-ℤ◌, int_lt, replicate, slice_set, slice_index_or, if◌then◌else◌}
use Rattle.uc_model.specs.Prelude.{bit, initial_p, thermal_count, thermal_unit}
use Rattle.uc_model.specs.declared.instance.Thermal.{Thermal}
use Rattle.dual_model.specs.Prices.{Instance, RampRow, Table, pi_at, mu_at, up_at, down_at}

-- the scale at which a price is in micro-dollars for a megawatt
abbrev pub ZERO_SCALE : ℤ
ZERO_SCALE = pos 1000000

-- every price is 0, at any scale
abbrev pub unpriced_table : Instance → ℤ → Table
unpriced_table instance k = record {
  units = thermal_count instance;
  k = k;
  pi = replicate instance.periods (pos 0);
  mu = replicate instance.periods (pos 0);
  ramps = [];
}

-- the table of no prices
abbrev pub zero_table : Instance → Table
zero_table instance = unpriced_table instance ZERO_SCALE

-- ---- the opening rays
-- what a ray names: pi and mu of one period, and the units whose multiplier of M11, or of M12, is 1 in the first period.
-- All other numbers are 0
pub record OpeningRay : Type 0 where
  pub demand : ℤ
  pub reserve : ℤ
  pub up : Thermal → Bool
  pub down : Thermal → Bool

-- no unit
abbrev pub nowhere : Thermal → Bool
nowhere unit = false

-- a unit that is on initially and can't rise to its greatest output in the first period: RU + p(0) < Pmax - Pmin
abbrev pub rises_short : Thermal → Bool
rises_short unit = unit.on0 && int_lt (unit.ru +ℤ initial_p unit) (unit.pmax -ℤ unit.pmin)

-- one that can't fall to its minimum in the first period: p(0) > RD
abbrev pub falls_short : Thermal → Bool
falls_short unit = unit.on0 && int_lt unit.rd (initial_p unit)

-- one that can't even rise to its minimum in the first period: RU + p(0) < 0
abbrev pub stays_below : Thermal → Bool
stays_below unit = unit.on0 && int_lt (unit.ru +ℤ initial_p unit) (pos 0)

-- the rays of a period: too little for demand, too much, too little for demand and reserve, too little for reserve
abbrev pub period_rays : List OpeningRay
period_rays =
    (record { demand = pos 1; reserve = pos 0; up = nowhere; down = nowhere })
    ∷ (record { demand = neg_ℤ (pos 1); reserve = pos 0; up = nowhere; down = nowhere })
    ∷ (record { demand = pos 1; reserve = pos 1; up = nowhere; down = nowhere })
    ∷ (record { demand = pos 0; reserve = pos 1; up = nowhere; down = nowhere })
    ∷ []

-- the rays of the first period with its ramps: the first, the third and the second of these with the ramps that bind, and the
-- ramps up alone
abbrev pub ramp_rays : List OpeningRay
ramp_rays =
    (record { demand = pos 1; reserve = pos 0; up = rises_short; down = nowhere })
    ∷ (record { demand = pos 1; reserve = pos 1; up = rises_short; down = nowhere })
    ∷ (record { demand = neg_ℤ (pos 1); reserve = pos 0; up = nowhere; down = falls_short })
    ∷ (record { demand = pos 0; reserve = pos 0; up = stays_below; down = nowhere })
    ∷ []

-- past the last ray
abbrev pub no_ray : OpeningRay
no_ray = record { demand = pos 0; reserve = pos 0; up = nowhere; down = nowhere }

-- how many rays there are
abbrev pub ray_count : ℕ → ℕ
ray_count periods = 4 * periods + 4

-- ray n, from 0: the rays of each period, period by period, and then those of the ramps; and its period
abbrev pub ray_at : ℕ → ℕ → OpeningRay
ray_at periods n =
    if nat_lt n (4 * periods) then slice_index_or period_rays (n % 4) no_ray else slice_index_or ramp_rays (n - 4 * periods) no_ray

abbrev pub ray_period : ℕ → ℕ → ℕ
ray_period periods n = if nat_lt n (4 * periods) then n / 4 else 0

-- a price in one period, and 0 in the others
abbrev pub price_in : ℕ → ℕ → ℤ → List ℤ
price_in periods t price = slice_set (replicate periods (pos 0)) t price

-- the row of a unit in the first period, if it is named
abbrev pub first_row : ℕ → Bool → Bool → List RampRow
first_row g up down = if up || down then (record { g = g; t = 0; up = bit up; down = bit down }) ∷ [] else []

-- the rows of the first n units
abbrev pub first_rows : Instance → (Thermal → Bool) → (Thermal → Bool) → ℕ → List RampRow
first_rows instance up down zero = []
first_rows instance up down (suc n) =
    first_rows instance up down n ++ first_row n (up (thermal_unit instance n)) (down (thermal_unit instance n))

-- the table of a ray in period t
abbrev pub ray_prices : Instance → ℕ → OpeningRay → Table
ray_prices instance t ray = record {
  units = thermal_count instance;
  k = pos 0;
  pi = price_in instance.periods t ray.demand;
  mu = price_in instance.periods t ray.reserve;
  ramps = first_rows instance ray.up ray.down (thermal_count instance);
}

-- the table of the opening's ray n, from 0
abbrev pub ray_table : Instance → ℕ → Table
ray_table instance n = ray_prices instance (ray_period instance.periods n) (ray_at instance.periods n)

-- ---- the same number by number
-- the numbers of a table are those that a ray names in period t: pi and mu there, a multiplier of 1 in the first period for each
-- unit that is named, and 0 everywhere else
pub record HasNumbersOf (instance : Instance) (t : ℕ) (ray : OpeningRay) (table : Table) : Type 0 where
  pub scale : table.k ≡ pos 0
  pub demand : (s : ℕ) → s < instance.periods → pi_at table s ≡ (if s == t then ray.demand else pos 0)
  pub reserve : (s : ℕ) → s < instance.periods → mu_at table s ≡ (if s == t then ray.reserve else pos 0)
  pub up : (g s : ℕ) → g < thermal_count instance → up_at table g s ≡ (if s == 0 then bit (ray.up (thermal_unit instance g)) else pos 0)
  pub down : (g s : ℕ) → g < thermal_count instance → down_at table g s ≡ (if s == 0 then bit (ray.down (thermal_unit instance g)) else pos 0)

-- ray n is one of those that ask for demand or reserve of a period and name no ramp: too little of either, or of both
pub record IsShortageRay (periods n : ℕ) : Type 0 where
  pub within : n < 4 * periods
  pub wants : n % 4 ≢ 1

-- those of the opening's ray n, from 0
abbrev pub HasRayNumbers : Instance → ℕ → Table → Type 0
HasRayNumbers instance n table = HasNumbersOf instance (ray_period instance.periods n) (ray_at instance.periods n) table
