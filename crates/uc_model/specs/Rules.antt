-- The rules M1 to M17 of the model. Source: the reference model by Knueven, Ostrowski and Watson
-- published with the pglib-uc format, each given power multiplied by the denominator q; that the ramp
-- rows M11 and M12 hold in off periods too is this model's own choice, and so are the limits M16 and M17 on
-- what is missing of demand and reserve at a price.
--
-- Each rule is a test for a unit and a period, both from 0. A rule on the whole system has one unit,
-- and M7 one period.
use Rattle.std.specs.Prelude.{ℕ, suc, ◌≤◌, Bool, not, ◌&&◌, ◌||◌, nat_lt, nat_le, ℤ, pos, ◌+ℤ◌, ◌-ℤ◌, ◌*ℤ◌, int_le, IsTrue}
use Rattle.std.specs.Int.{int_max}
use Rattle.std.specs.Ordering.{int_eq}
use Rattle.uc_model.specs.Sums.{sum_below, all_below, bit}
use Rattle.uc_model.specs.Commitment.{Thermal, must_run_at, initial_up_at, initial_down_at, minimum_up_at, minimum_down_at, initial_stop_holds, start_cap, stop_cap}
use Rattle.uc_model.specs.StartCategory.{category_holds_at}
use Rattle.uc_model.specs.Schedule.{Instance, Row, Schedule, thermal_unit, thermal_count, renewable_count, renewable_minimum, renewable_maximum, demand_at, reserve_at, most_shed, most_short, point_count, p_at, p_before, weight_sum}

-- the rules by their names, in the order M1 to M17
pub data Rule : Type 0 where
  MustRun : Rule
  InitialUp : Rule
  InitialDown : Rule
  MinimumUp : Rule
  MinimumDown : Rule
  Category : Rule
  InitialStop : Rule
  Production : Rule
  StartCap : Rule
  StopCap : Rule
  RampUp : Rule
  RampDown : Rule
  RenewableRange : Rule
  Demand : Rule
  Reserve : Rule
  ShedRange : Rule
  ShortRange : Rule

-- M8: weights from 0 to q with sum q*u, and r >= 0; off means p = r = 0
abbrev pub production_at : ℕ → Thermal → Row → ℕ → Bool
production_at q unit row t =
    all_below (point_count unit) (λ l. nat_le (row.weight t l) q)
    && int_eq (weight_sum unit row t) (pos q *ℤ bit (row.on t))
    && int_le (pos 0) (row.reserve t)
    && (row.on t || (int_eq (p_at unit row t) (pos 0) && int_eq (row.reserve t) (pos 0)))

-- M9: p+r <= (Pmax-Pmin)*u - max(Pmax-SU,0)*v(t)
abbrev pub start_cap_at : ℕ → Thermal → Row → ℕ → Bool
start_cap_at q unit row t = int_le (p_at unit row t +ℤ row.reserve t) (pos q *ℤ start_cap unit row.on t)

-- M10: for t < T, p+r <= (Pmax-Pmin)*u - max(Pmax-SD,0)*w(t+1)
abbrev pub stop_cap_at : ℕ → ℕ → Thermal → Row → ℕ → Bool
stop_cap_at periods q unit row t =
    not (nat_lt (suc t) periods) || int_le (p_at unit row t +ℤ row.reserve t) (pos q *ℤ stop_cap unit row.on t)

-- M11: p(t)+r(t)-p(t-1) <= RU
abbrev pub ramp_up_at : ℕ → Thermal → Row → ℕ → Bool
ramp_up_at q unit row t = int_le (p_at unit row t +ℤ row.reserve t -ℤ p_before q unit row t) (pos q *ℤ unit.ru)

-- M12: p(t-1)-p(t) <= RD
abbrev pub ramp_down_at : ℕ → Thermal → Row → ℕ → Bool
ramp_down_at q unit row t = int_le (p_before q unit row t -ℤ p_at unit row t) (pos q *ℤ unit.rd)

-- M13: max(minimum,0) <= output <= maximum
abbrev pub renewable_range_at : Instance → ℕ → Schedule → ℕ → ℕ → Bool
renewable_range_at instance q x w t =
    int_le (pos q *ℤ int_max (renewable_minimum instance w t) (pos 0)) (x.output w t)
    && int_le (x.output w t) (pos q *ℤ renewable_maximum instance w t)

-- the total output of thermal unit g, p + Pmin*u, over q
abbrev pub thermal_output : Instance → ℕ → Schedule → ℕ → ℕ → ℤ
thermal_output instance q x g t =
    let unit = thermal_unit instance g in
    p_at unit (x.thermal g) t +ℤ pos q *ℤ unit.pmin *ℤ bit ((x.thermal g).on t)

-- what all units give in period t, and their reserve, over q
abbrev pub supply_at : Instance → ℕ → Schedule → ℕ → ℤ
supply_at instance q x t =
    sum_below (thermal_count instance) (λ g. thermal_output instance q x g t)
    +ℤ sum_below (renewable_count instance) (λ w. x.output w t)

abbrev pub reserve_supply_at : Instance → Schedule → ℕ → ℤ
reserve_supply_at instance x t = sum_below (thermal_count instance) (λ g. (x.thermal g).reserve t)

-- what is missing of a need, over q: from 0 to the most that may be missing, and 0 where it has no price
abbrev pub shortage_holds : ℕ → ℕ → ℤ → ℤ → Bool
shortage_holds q price most missing = int_le (pos 0) missing && int_le missing (pos q *ℤ most) && (nat_lt 0 price || int_eq missing (pos 0))

-- the rule holds for this unit and period
abbrev pub holds_at : Rule → Instance → ℕ → Schedule → ℕ → ℕ → Bool
holds_at MustRun instance q x g t = must_run_at (thermal_unit instance g) (x.thermal g).on t
holds_at InitialUp instance q x g t = initial_up_at (thermal_unit instance g) (x.thermal g).on t
holds_at InitialDown instance q x g t = initial_down_at (thermal_unit instance g) (x.thermal g).on t
holds_at MinimumUp instance q x g t = minimum_up_at instance.periods (thermal_unit instance g) (x.thermal g).on t
holds_at MinimumDown instance q x g t = minimum_down_at instance.periods (thermal_unit instance g) (x.thermal g).on t
holds_at Category instance q x g t = category_holds_at (thermal_unit instance g) (x.thermal g).on (x.thermal g).category t
holds_at InitialStop instance q x g t = initial_stop_holds (thermal_unit instance g) (x.thermal g).on
holds_at Production instance q x g t = production_at q (thermal_unit instance g) (x.thermal g) t
holds_at StartCap instance q x g t = start_cap_at q (thermal_unit instance g) (x.thermal g) t
holds_at StopCap instance q x g t = stop_cap_at instance.periods q (thermal_unit instance g) (x.thermal g) t
holds_at RampUp instance q x g t = ramp_up_at q (thermal_unit instance g) (x.thermal g) t
holds_at RampDown instance q x g t = ramp_down_at q (thermal_unit instance g) (x.thermal g) t
holds_at RenewableRange instance q x w t = renewable_range_at instance q x w t
-- M14: the sum of p + Pmin*u plus renewable output and s(t) is D(t)
holds_at Demand instance q x _ t = int_eq (supply_at instance q x t +ℤ x.shed t) (pos q *ℤ demand_at instance t)
-- M15: the sum of r plus e(t) is at least R(t)
holds_at Reserve instance q x _ t = int_le (pos q *ℤ reserve_at instance t) (reserve_supply_at instance x t +ℤ x.short t)
-- M16: 0 <= s(t) <= max(D(t),0), and s(t) = 0 where A = 0
holds_at ShedRange instance q x _ t = shortage_holds q instance.a (most_shed instance t) (x.shed t)
-- M17: 0 <= e(t) <= max(R(t),0), and e(t) = 0 where B = 0
holds_at ShortRange instance q x _ t = shortage_holds q instance.b (most_short instance t) (x.short t)

-- the number n of the rule's name Mn
abbrev pub rule_number : Rule → ℕ
rule_number MustRun = 1
rule_number InitialUp = 2
rule_number InitialDown = 3
rule_number MinimumUp = 4
rule_number MinimumDown = 5
rule_number Category = 6
rule_number InitialStop = 7
rule_number Production = 8
rule_number StartCap = 9
rule_number StopCap = 10
rule_number RampUp = 11
rule_number RampDown = 12
rule_number RenewableRange = 13
rule_number Demand = 14
rule_number Reserve = 15
rule_number ShedRange = 16
rule_number ShortRange = 17

-- how many units and periods a rule speaks of
abbrev pub rule_units : Rule → Instance → ℕ
rule_units RenewableRange instance = renewable_count instance
rule_units Demand instance = 1
rule_units Reserve instance = 1
rule_units ShedRange instance = 1
rule_units ShortRange instance = 1
rule_units _ instance = thermal_count instance

abbrev pub rule_periods : Rule → Instance → ℕ
rule_periods InitialStop instance = 1
rule_periods _ instance = instance.periods

-- the rule holds everywhere
abbrev pub holds : Rule → Instance → ℕ → Schedule → Bool
holds rule instance q x = all_below (rule_units rule instance) (λ g. all_below (rule_periods rule instance) (holds_at rule instance q x g))

-- the schedule x over the denominator q obeys the model
pub record Obeys (instance : Instance) (q : ℕ) (x : Schedule) : Type 0 where
  pub denominator : 1 ≤ q
  pub rules : (rule : Rule) → IsTrue (holds rule instance q x)
