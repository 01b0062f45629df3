-- What a period's dispatch leaves unserved of demand, and what reserve it lacks, where these have a price. Source: unserved energy
-- and missing reserve at a price in unit commitment; in which order they are taken is this project's own.
use Rattle.std.specs.Prelude.{◌==◌, ◌&&◌, nat_lt, ℤ, pos, ◌+ℤ◌, ◌-ℤ◌, if◌then◌else◌}
use Rattle.std.specs.Int.{int_max}
use Rattle.dispatch_repair.specs.Period.{Period, low_of, high_of, heads, thermal_sum, renewable_sum, minimums, total_output, demand_of, need_of}

-- the room for reserve: the heads, less the output that the thermal units have to give at least
abbrev pub reserve_room : Period → ℤ
reserve_room period =
    heads period -ℤ int_max (thermal_sum period (low_of period))
    (demand_of period -ℤ minimums period -ℤ renewable_sum period (high_of period))

-- the period whose demand is what is served, and whose need is the reserve that is kept
abbrev pub served : Period → ℤ → ℤ → Period
served period shed short = record period { demand = period.demand -ℤ shed; need = period.need -ℤ short }

-- the demand above the most that all give, where demand has a price
abbrev pub unmet : Period → ℤ
unmet period =
    if nat_lt 0 period.instance.a then int_max (demand_of period -ℤ total_output period (high_of period)) (pos 0)
    else pos 0

-- the reserve that has no room beside the demand that is left
abbrev pub lacking : Period → ℤ
lacking period = int_max (need_of period -ℤ reserve_room (served period (unmet period) (pos 0))) (pos 0)

-- where reserve has no price, demand that has one makes room for it
abbrev pub shed_of : Period → ℤ
shed_of period =
    if nat_lt 0 period.instance.a && period.instance.b == 0 then unmet period +ℤ lacking period
    else unmet period

-- reserve is missing where it has a price
abbrev pub short_of : Period → ℤ
short_of period = if nat_lt 0 period.instance.b then lacking period else pos 0

-- the most room for reserve: where demand has a price, that of the least output
abbrev pub greatest_room : Period → ℤ
greatest_room period =
    if nat_lt 0 period.instance.a then heads period -ℤ thermal_sum period (low_of period) else reserve_room period
