-- One period of a commitment: where each source's output may lie, by what each thermal unit gave in the period before.
-- Source: the generation limits, start-up and shut-down limits and ramp limits of the reference model by Knueven, Ostrowski and
-- Watson; that each period is filled for itself, from the one before and with the fall to a stop ahead, is this project's own.
use Rattle.std.specs.Prelude.{ℕ, zero, suc, ◌-◌, ◌<◌, Bool, not, ◌&&◌, nat_lt, List, ℤ, pos, ◌+ℤ◌, ◌-ℤ◌, ◌*ℤ◌, slice_index_or, if◌then◌else◌}
use Rattle.std.specs.Int.{int_min, int_max}
use Rattle.uc_model.specs.Prelude.{sum_below, bit, Commitment, cap, initial_p, commitment_of, cell_at, thermal_unit, thermal_count, renewable_count, renewable_minimum, renewable_maximum, point_p, point_count}
pub use Rattle.uc_model.specs.declared.instance.Instance.{Instance}
pub use Rattle.uc_model.specs.declared.instance.Thermal.{Thermal}
pub use Rattle.uc_model.specs.declared.pattern.Pattern.{Pattern}
pub use Rattle.uc_model.specs.declared.schedule.Printed.{Printed}

-- the commitment of unit g, from 0, whose patterns are these
abbrev pub commitment_at : List Pattern → ℕ → Commitment
commitment_at patterns g = commitment_of (slice_index_or patterns g (record { low = 0; high = 0 }))

-- a unit's output above its minimum in the period before t; before the first one it is given
abbrev pub output_before : Instance → Printed → ℕ → ℕ → ℤ
output_before instance printed g zero = initial_p (thermal_unit instance g)
output_before instance printed g (suc t) = (cell_at printed g t).p

-- the most that a unit's output and reserve may be in period t after `before`; an off cell's cap is 0
abbrev pub head : ℕ → Thermal → Commitment → ℕ → ℤ → ℤ
head periods unit on t before = int_min (cap periods unit on t) (before +ℤ unit.ru)

-- the least that its output may be
abbrev pub lowest : Thermal → ℤ → ℤ
lowest unit before = int_max (pos 0) (before -ℤ unit.rd)

-- the unit is off in the period after t
abbrev pub is_off_next : ℕ → Commitment → ℕ → Bool
is_off_next periods on t = nat_lt (suc t) periods && not (on (suc t))

-- the most that its output may be: it lies on the curve, and can fall to nothing before a stop
abbrev pub highest : ℕ → Thermal → Commitment → ℕ → ℤ → ℤ
highest periods unit on t before =
    let most = int_min (head periods unit on t before) (point_p unit (point_count unit - 1)) in
    if is_off_next periods on t then int_min most unit.rd else most

-- a period of an instance, with the units' commitments, what each gave in the period before, and the demand and reserve that
-- are to be met
pub record Period : Type 0 where
  pub instance : Instance
  pub on : ℕ → Commitment
  pub t : ℕ
  pub before : ℕ → ℤ
  pub demand : ℤ
  pub need : ℤ

-- what gives power: renewable unit w, or thermal unit g above its minimum
pub data Source : Type 0 where
  FromRenewable : ℕ → Source
  FromThermal : ℕ → Source

abbrev pub IsSourceOf : Instance → Source → Type 0
IsSourceOf instance (FromRenewable w) = w < renewable_count instance
IsSourceOf instance (FromThermal g) = g < thermal_count instance

-- the ends of a source's range
abbrev pub low_of : Period → Source → ℤ
low_of period (FromRenewable w) = int_max (renewable_minimum period.instance w period.t) (pos 0)
low_of period (FromThermal g) = lowest (thermal_unit period.instance g) (period.before g)

abbrev pub high_of : Period → Source → ℤ
high_of period (FromRenewable w) = renewable_maximum period.instance w period.t
high_of period (FromThermal g) =
    highest period.instance.periods (thermal_unit period.instance g) (period.on g) period.t (period.before g)

-- a unit's head
abbrev pub head_of : Period → ℕ → ℤ
head_of period g = head period.instance.periods (thermal_unit period.instance g) (period.on g) period.t (period.before g)

-- the sum over the thermal units, and over the renewable ones
abbrev pub thermal_sum : Period → (Source → ℤ) → ℤ
thermal_sum period f = sum_below (thermal_count period.instance) (λ g. f (FromThermal g))

abbrev pub renewable_sum : Period → (Source → ℤ) → ℤ
renewable_sum period f = sum_below (renewable_count period.instance) (λ w. f (FromRenewable w))

-- the minimums of the units that are on, and what all give with them
abbrev pub minimums : Period → ℤ
minimums period =
    sum_below (thermal_count period.instance) (λ g. (thermal_unit period.instance g).pmin *ℤ bit (period.on g period.t))

abbrev pub total_output : Period → (Source → ℤ) → ℤ
total_output period amount = minimums period +ℤ thermal_sum period amount +ℤ renewable_sum period amount

-- the sum of the heads
abbrev pub heads : Period → ℤ
heads period = sum_below (thermal_count period.instance) (head_of period)

abbrev pub demand_of : Period → ℤ
demand_of period = period.demand

abbrev pub need_of : Period → ℤ
need_of period = period.need

-- the most that the thermal units may give above their minimums: their heads without the reserve that is needed
abbrev pub thermal_limit : Period → ℤ
thermal_limit period = heads period -ℤ int_max (need_of period) (pos 0)
