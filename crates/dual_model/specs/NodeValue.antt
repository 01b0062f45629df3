-- The value V of a node at a table: the Lagrangian bound. Source: the Lagrangian dual function of the
-- reference model by Knueven, Ostrowski and Watson, with demand (M14), reserve (M15) and the ramps (M11,
-- M12) priced, in which what may be missing at a price is chosen for each period by itself, within M16 and M17; every
-- number is K times micro-dollars.
use Rattle.std.specs.Prelude.{◌≡◌, ℕ, zero, ◌<◌, nat_lt, ℤ, pos, ◌+ℤ◌, ◌-ℤ◌, ◌*ℤ◌, neg_ℤ, int_lt, if◌then◌else◌}
use Rattle.std.specs.Int.{int_min, int_max}
use Rattle.uc_model.specs.Prelude.{sum_below, initial_p, thermal_unit, thermal_count, renewable_count, renewable_minimum, renewable_maximum, demand_at, reserve_at, most_shed, most_short}
pub use Rattle.uc_model.specs.declared.instance.Thermal.{Thermal}
pub use Rattle.uc_model.specs.declared.instance.Instance.{Instance}
use Rattle.dual_model.specs.Prices.{pi_at, mu_at, up_at, down_at}
use Rattle.dual_model.specs.UnitValue.{IsUnitValue}
pub use Rattle.dual_model.specs.declared.node.Node.{Node}
pub use Rattle.dual_model.specs.declared.table.Table.{Table}

-- what a need at a multiplier adds where it may be missing at a price: min(0, K*price - multiplier) times the most that may
-- be missing, and nothing where it has no price
abbrev pub shortage_value : ℤ → ℕ → ℤ → ℤ → ℤ
shortage_value k price multiplier most = if nat_lt 0 price then int_min (pos 0) (k *ℤ pos price -ℤ multiplier) *ℤ most else pos 0

-- what demand and reserve of period t that may be missing add
abbrev pub shortages_value : Instance → Table → ℕ → ℤ
shortages_value instance table t =
    shortage_value table.k instance.a (pi_at table t) (most_shed instance t)
    +ℤ shortage_value table.k instance.b (mu_at table t) (most_short instance t)

-- pi(t)*D(t) + mu(t)*R(t), and what may be missing of them
abbrev pub needs_value : Instance → Table → ℕ → ℤ
needs_value instance table t =
    pi_at table t *ℤ demand_at instance t +ℤ mu_at table t *ℤ reserve_at instance t +ℤ shortages_value instance table t

-- the same over the periods
abbrev pub system_value : Instance → Table → ℤ
system_value instance table = sum_below instance.periods (needs_value instance table)

-- unit g's constant: -up(t)*RU - down(t)*RD over the periods, and (down(1) - up(1))*p(0)
abbrev pub unit_constant : ℕ → Table → Thermal → ℕ → ℤ
unit_constant periods table unit g =
    sum_below periods (λ t. neg_ℤ (up_at table g t *ℤ unit.ru) -ℤ down_at table g t *ℤ unit.rd)
    +ℤ (down_at table g zero -ℤ up_at table g zero) *ℤ initial_p unit

abbrev pub constant_at : Instance → Table → ℕ → ℤ
constant_at instance table g = unit_constant instance.periods table (thermal_unit instance g) g

-- what unit g adds to the node's value: its own value and its constant
abbrev pub unit_part : Instance → Table → ℕ → ℤ → ℤ
unit_part instance table g value = value +ℤ constant_at instance table g

-- what a renewable cell adds: minus pi(t) times the greatest output where pi(t) > 0, else times the least one
abbrev pub renewable_value : Instance → Table → ℕ → ℕ → ℤ
renewable_value instance table w t =
    if int_lt (pos 0) (pi_at table t) then neg_ℤ (pi_at table t *ℤ renewable_maximum instance w t)
    else neg_ℤ (pi_at table t *ℤ int_max (renewable_minimum instance w t) (pos 0))

-- what renewable unit w adds
abbrev pub renewable_part : Instance → Table → ℕ → ℤ
renewable_part instance table w = sum_below instance.periods (renewable_value instance table w)

abbrev pub renewables_value : Instance → Table → ℤ
renewables_value instance table = sum_below (renewable_count instance) (renewable_part instance table)

-- the node's value, by the values of the units: the system's part, and a part for each thermal and renewable unit
abbrev pub node_total : Instance → Table → (ℕ → ℤ) → ℤ
node_total instance table unit_value =
    system_value instance table
    +ℤ sum_below (thermal_count instance) (λ g. unit_part instance table g (unit_value g))
    +ℤ renewables_value instance table

-- v is the value of the node at the table; there is none where some unit has no pattern there
pub record IsNodeValue (instance : Instance) (node : Node) (table : Table) (v : ℤ) : Type 0 where
  pub unit_value : ℕ → ℤ
  pub units : (g : ℕ) → g < thermal_count instance → IsUnitValue instance node table g (unit_value g)
  pub total : v ≡ node_total instance table unit_value
