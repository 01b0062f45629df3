-- Small instances and schedules on which the rules, the start categories and the caps are computed: for
-- each rule a schedule that breaks this rule and no other, and one that obeys them all. One thermal unit
-- of 10 to 50 MW and one renewable unit of at most 5 MW.
use Rattle.std.specs.Prelude.{ℕ, ◌*◌, Bool, true, false, not, ◌&&◌, ◌||◌, List, [], ◌∷◌, ℤ, pos, negsuc, neg_ℤ, ◌+ℤ◌, ◌-ℤ◌, ◌*ℤ◌, int_le, length, slice_index_or, filter, replicate}
use Rattle.uc_model.specs.Sums.{bit}
use Rattle.uc_model.specs.Commitment.{Thermal, Commitment, was_on, stops, stop_reduction}
use Rattle.uc_model.specs.Rules.{Rule, MustRun, InitialUp, InitialDown, MinimumUp, MinimumDown, Category, InitialStop, Production, StartCap, StopCap, RampUp, RampDown, RenewableRange, Demand, Reserve, ShedRange, ShortRange, holds, holds_at}
use Rattle.uc_model.specs.Schedule.{Instance, no_unit, thermal_unit}
use Rattle.uc_model.specs.PrintedSchedule.{Cell, Point, Printed, printed_schedule, printed_denominator, printed_cost, cell_at}
use Rattle.uc_model.specs.Denominator.{is_schedule_whole_over}
use Rattle.uc_model.specs.declared.instance.StartRow.{StartRow}

-- whole megawatts in watts, and whole dollars in micro-dollars
abbrev pub mw : ℕ → ℤ
mw n = pos (n * 1000000)

abbrev pub dollars : ℕ → ℤ
dollars n = pos (n * 1000000)

-- 100 dollars an hour at 10 MW and 500 at 50 MW, with free starts
abbrev pub ranged_unit : Thermal
ranged_unit = record no_unit {
  pmin = mw 10;
  pmax = mw 50;
  startup = record { lag = 1; cost = pos 0 } ∷ [];
  points = (record { mw = mw 10; cost = dollars 100 }) ∷ (record { mw = mw 50; cost = dollars 500 }) ∷ [];
}

-- its start-up and shut-down limits and ramps as wide as its range
abbrev pub free_unit : Thermal
free_unit = record ranged_unit { ru = mw 40; rd = mw 40; su = mw 50; sd = mw 50 }

-- on initially at 20 MW, and all times 1
abbrev pub base_unit : Thermal
base_unit = record free_unit { ut = 1; dt = 1; p0 = mw 20; on0 = true; ut0 = 1 }

-- the same, off initially
abbrev pub cold_unit : Thermal
cold_unit = record base_unit { p0 = pos 0; on0 = false; ut0 = 0; dt0 = 1 }

-- the unit and the renewable one over as many periods as there are demands
abbrev pub system : Thermal → List ℤ → List ℤ → Instance
system unit demand reserves = record {
  periods = length demand;
  demand = demand;
  reserves = reserves;
  thermal = unit ∷ [];
  renewable = (record { name = []; minimum = []; maximum = mw 5 ∷ mw 5 ∷ [] }) ∷ [];
  a = 0;
  b = 0;
}

-- 100 dollars a MWh for unserved demand, and 20 for missing reserve
abbrev pub priced : Instance → Instance
priced instance = record instance { a = 100; b = 20 }

-- an instance and a printed schedule of it
pub record Example : Type 0 where
  pub instance : Instance
  pub printed : Printed

abbrev pub off : Cell
off = record { on = false; p = pos 0; r = pos 0; category = 0 }

-- on at p MW above the minimum, with reserve r MW and start category c
abbrev pub on : ℕ → ℕ → ℕ → Cell
on p r c = record { on = true; p = mw p; r = mw r; category = c }

-- the cells of the thermal unit, and an idle renewable one
abbrev pub cells : List Cell → Printed
cells row = record {
  thermal = row ∷ [];
  renewable = [] ∷ [];
  shed = replicate (length row) (pos 0);
  short = replicate (length row) (pos 0);
  denominator = 1;
}

-- an hour at these prices in which s of demand and e of reserve are missing
abbrev pub lacking : Instance → ℤ → ℤ → Cell → Example
lacking instance s e cell = record {
  instance = instance;
  printed = record (cells (cell ∷ [])) { shed = s ∷ []; short = e ∷ [] };
}

-- the thermal unit at these demands, with these cells
abbrev pub tried : Thermal → List ℤ → List ℤ → List Cell → Example
tried unit demand reserves row = record { instance = system unit demand reserves; printed = cells row }

-- a schedule that obeys every rule: 30 MW and 5 MW of reserve
abbrev pub obeying : Example
obeying = tried base_unit (mw 30 ∷ []) (mw 5 ∷ []) (on 20 5 0 ∷ [])

-- a schedule that breaks the rule and no other
abbrev pub breaking : Rule → Example
-- off, though it must run
breaking MustRun = tried (record base_unit { must_run = true }) (mw 0 ∷ []) (mw 0 ∷ []) (off ∷ [])
-- off after one of three hours up
breaking InitialUp = tried (record base_unit { ut = 3 }) (mw 0 ∷ []) (mw 0 ∷ []) (off ∷ [])
-- on after one of three hours down
breaking InitialDown = tried (record cold_unit { must_run = true; dt = 3 }) (mw 30 ∷ []) (mw 0 ∷ []) (on 20 0 1 ∷ [])
-- up for one of two hours
breaking MinimumUp = tried (record cold_unit { ut = 2 }) (mw 30 ∷ mw 0 ∷ []) (mw 0 ∷ mw 0 ∷ []) (on 20 0 1 ∷ off ∷ [])
-- down for one of two hours
breaking MinimumDown = tried (record base_unit { dt = 2 }) (mw 0 ∷ mw 30 ∷ []) (mw 0 ∷ mw 0 ∷ []) (off ∷ on 20 0 1 ∷ [])
-- a start without a category
breaking Category = tried cold_unit (mw 30 ∷ []) (mw 0 ∷ []) (on 20 0 0 ∷ [])
-- a stop from 20 MW above the minimum, where 10 MW are allowed
breaking InitialStop = tried (record base_unit { p0 = mw 30; sd = mw 20 }) (mw 0 ∷ []) (mw 0 ∷ []) (off ∷ [])
-- a reserve below 0
breaking Production = tried base_unit (mw 30 ∷ []) (negsuc 0 ∷ []) ((record { on = true; p = mw 20; r = negsuc 0; category = 0 }) ∷ [])
-- a start at 20 MW above the minimum, where 10 MW are allowed
breaking StartCap = tried (record cold_unit { su = mw 20 }) (mw 30 ∷ []) (mw 0 ∷ []) (on 20 0 1 ∷ [])
-- 20 MW above the minimum before a stop, where 10 MW are allowed
breaking StopCap = tried (record base_unit { sd = mw 20 }) (mw 30 ∷ mw 0 ∷ []) (mw 0 ∷ mw 0 ∷ []) (on 20 0 0 ∷ off ∷ [])
-- 10 MW up in an hour, where 5 MW are allowed
breaking RampUp = tried (record base_unit { ru = mw 5 }) (mw 30 ∷ []) (mw 0 ∷ []) (on 20 0 0 ∷ [])
-- 10 MW down in the hour of a stop, where 5 MW are allowed
breaking RampDown = tried (record base_unit { rd = mw 5 }) (mw 20 ∷ mw 0 ∷ []) (mw 0 ∷ mw 0 ∷ []) (on 10 0 0 ∷ off ∷ [])
-- 6 MW of the renewable unit's 5 MW
breaking RenewableRange = record {
  instance = system base_unit (mw 36 ∷ []) (mw 0 ∷ []);
  printed = record (cells (on 20 0 0 ∷ [])) { renewable = (mw 6 ∷ []) ∷ [] };
}
-- 30 MW for a demand of 31 MW
breaking Demand = tried base_unit (mw 31 ∷ []) (mw 0 ∷ []) (on 20 0 0 ∷ [])
-- 20 MW of reserve where 21 MW are needed
breaking Reserve = tried base_unit (mw 30 ∷ []) (mw 21 ∷ []) (on 20 20 0 ∷ [])
-- 1 MW of 31 unserved, which has no price
breaking ShedRange = lacking (system base_unit (mw 31 ∷ []) (mw 0 ∷ [])) (mw 1) (pos 0) (on 20 0 0)
-- 5 MW of reserve missing, which have no price
breaking ShortRange = lacking (system base_unit (mw 30 ∷ []) (mw 5 ∷ [])) (pos 0) (mw 5) (on 20 0 0)

-- the same rules by their other limits, at prices: less than nothing unserved, or missing, and more missing than is needed
abbrev pub shed_below_nought : Example
shed_below_nought = lacking (priced (system base_unit (mw 30 ∷ []) (mw 0 ∷ []))) (neg_ℤ (mw 1)) (pos 0) (on 21 0 0)

abbrev pub short_below_nought : Example
short_below_nought = lacking (priced (system base_unit (mw 30 ∷ []) (mw 5 ∷ []))) (pos 0) (neg_ℤ (mw 1)) (on 20 6 0)

abbrev pub short_above_need : Example
short_above_need = lacking (priced (system base_unit (mw 30 ∷ []) (mw 5 ∷ []))) (pos 0) (mw 6) (on 20 0 0)

-- 60 MW and 5 MW of reserve of a unit of 50 MW, at a price for demand alone, and at prices for both
abbrev pub overloaded : Instance
overloaded = priced (system base_unit (mw 60 ∷ []) (mw 5 ∷ []))

abbrev pub shed_alone : Example
shed_alone = lacking (record overloaded { b = 0 }) (mw 15) (pos 0) (on 35 5 0)

abbrev pub shed_and_short : Example
shed_and_short = lacking overloaded (mw 10) (mw 5) (on 40 0 0)

-- the schedule that obeys, in half watts
abbrev pub halved : Example
halved = record {
  instance = obeying.instance;
  printed = record (cells (on 40 10 0 ∷ [])) { denominator = 2 };
}

-- at a price of 1 for unserved demand and 20 for missing reserve, half a watt of each
abbrev pub half_missing : Example
half_missing = record {
  instance = record overloaded { a = 1 };
  printed = record (cells (off ∷ [])) { shed = pos 1 ∷ []; short = pos 1 ∷ []; denominator = 2 };
}

abbrev pub all_rules : List Rule
all_rules =
    MustRun ∷ InitialUp ∷ InitialDown ∷ MinimumUp ∷ MinimumDown ∷ Category ∷ InitialStop ∷ Production
    ∷ StartCap ∷ StopCap ∷ RampUp ∷ RampDown ∷ RenewableRange ∷ Demand ∷ Reserve ∷ ShedRange ∷ ShortRange ∷ []

-- the rules that the schedule which an example stands for breaks
abbrev pub broken_rules : Example → List Rule
broken_rules e =
    let q = printed_denominator e.instance e.printed in
    filter (λ rule. not (holds rule e.instance q (printed_schedule e.instance e.printed q))) all_rules

-- over d, each amount of the schedule which an example stands for is whole
abbrev pub is_whole_in : Example → ℕ → Bool
is_whole_in e d =
    let q = printed_denominator e.instance e.printed in
    is_schedule_whole_over e.instance q (printed_schedule e.instance e.printed q) d

-- ---- start categories, caps and costs

-- the commitment whose first periods are these
abbrev pub pattern : List Bool → Commitment
pattern bits t = slice_index_or bits t false

-- start rows of these lags and dollars
abbrev pub start_rows : List (ℕ × ℕ) → List StartRow
start_rows [] = []
start_rows (row ∷ rows) = (record { lag = row.0; cost = dollars row.1 }) ∷ start_rows rows

-- off for two hours initially, with a hot start below 4 hours off
abbrev pub two_category_unit : Thermal
two_category_unit = record cold_unit { dt0 = 2; startup = start_rows ((1, 50) ∷ (4, 200) ∷ []) }

abbrev pub on_off_on : Commitment
on_off_on = pattern (true ∷ false ∷ true ∷ [])

-- on initially, with a second category that is cheaper than the first
abbrev pub uneven_unit : Thermal
uneven_unit = record base_unit { startup = start_rows ((1, 50) ∷ (3, 10) ∷ (5, 100) ∷ []) }

-- a stop in the fifth period alone, and stops in the third and in the fifth
abbrev pub one_stop : Commitment
one_stop = pattern (true ∷ true ∷ true ∷ true ∷ false ∷ true ∷ [])

abbrev pub two_stops : Commitment
two_stops = pattern (true ∷ true ∷ false ∷ true ∷ false ∷ true ∷ [])

-- off initially, and too weak a start for its minimum: a start-up limit of 5 MW
abbrev pub weak_start_unit : Thermal
weak_start_unit = record cold_unit { su = mw 5 }

-- 5 MW above the minimum and a stop, where the shut-down limit allows 10 MW
abbrev pub stopping : Example
stopping = tried (record base_unit { sd = mw 20 }) (mw 15 ∷ mw 0 ∷ []) (mw 0 ∷ mw 0 ∷ []) (on 5 0 0 ∷ off ∷ [])

abbrev pub printed_cost_of : Example → ℤ
printed_cost_of e = printed_cost e.instance e.printed

-- points of these outputs and dollars
abbrev pub points : List (ℕ × ℤ) → List Point
points [] = []
points (pair ∷ pairs) = (record { mw = pos pair.0; cost = pair.1 }) ∷ points pairs

-- its middle point lies above the line between the others
abbrev pub bent_unit : Thermal
bent_unit = record base_unit {
  points = points ((0, dollars 0) ∷ (10000000, dollars 100) ∷ (20000000, dollars 120) ∷ []);
}

-- 3 W at a micro-dollar more, and at one less
abbrev pub rising_unit : Thermal
rising_unit = record base_unit { points = points ((0, pos 0) ∷ (3, pos 1) ∷ []) }

abbrev pub falling_unit : Thermal
falling_unit = record base_unit { points = points ((0, pos 0) ∷ (3, negsuc 0) ∷ []) }

-- ---- rules that are often written otherwise

-- what an example's rule says of its thermal unit in a period
abbrev pub rule_at_period : Example → Rule → ℕ → Bool
rule_at_period e rule =
    let q = printed_denominator e.instance e.printed in
    holds_at rule e.instance q (printed_schedule e.instance e.printed q) 0

-- M12 only between two on periods
abbrev pub ramp_down_between_on_periods : Example → ℕ → Bool
ramp_down_between_on_periods e t =
    let unit = thermal_unit e.instance 0 in
    let commitment = λ (k : ℕ). (cell_at e.printed 0 k).on in
    not (was_on unit commitment t && commitment t) || rule_at_period e RampDown t

-- M10's right side with the stop of the same period in place of the next one's
abbrev pub stop_cap_in_stop_period : Example → ℕ → Bool
stop_cap_in_stop_period e t =
    let unit = thermal_unit e.instance 0 in
    let commitment = λ (k : ℕ). (cell_at e.printed 0 k).on in
    let cell = cell_at e.printed 0 t in
    int_le (cell.p +ℤ cell.r)
    ((unit.pmax -ℤ unit.pmin) *ℤ bit (commitment t) -ℤ stop_reduction unit *ℤ bit (stops unit commitment t))
