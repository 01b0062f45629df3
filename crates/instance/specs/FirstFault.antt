-- The order in which the fields of an instance file are looked at, and the first fault that is met in that
-- order, by its code. What an instance is stands in specs/InstanceOf.antt, without any order.
use Rattle.std.specs.Prelude.{ℕ, ◌-◌, List, ℤ, pos, neg_ℤ, length, slice_index_or, ◌+◌, ◌%◌, Bool, ◌&&◌, ◌||◌, ◌==◌, nat_lt, [], ◌∷◌, ◌++◌, take, max, Option, Some, None, Result, Ok, Err, int_lt, if◌then◌else◌, sum_by, unwrap_or, option_and_then}
use Rattle.std.specs.Int.{int_max}
pub use Rattle.uc_model.specs.declared.limits.TheConstants.{MAX_PERIODS, MAX_UNITS, MAX_POINTS, MAX_START_ROWS, MAX_POWER, MAX_COST, MAX_TIME}
use Rattle.uc_model.specs.declared.instance.Point.{Point}
use Rattle.uc_model.specs.declared.instance.StartRow.{StartRow}
use Rattle.uc_model.specs.declared.instance.Thermal.{Thermal}
use Rattle.uc_model.specs.declared.instance.Renewable.{Renewable}
pub use Rattle.uc_model.specs.declared.instance.Instance.{Instance}
use Rattle.uc_model.specs.declared.field.Field.{Field}
use Rattle.uc_model.specs.declared.field_refusal.FieldRefusal.{FieldRefusal}
pub use Rattle.uc_model.specs.declared.field.Field.TheVariants.{NoField, TimePeriods, Demand, Reserves, ThermalGenerators, RenewableGenerators, MustRun, PowerOutputMinimum, PowerOutputMaximum, RampUpLimit, RampDownLimit, RampStartupLimit, RampShutdownLimit, TimeUpMinimum, TimeDownMinimum, PowerOutputT0, UnitOnT0, TimeUpT0, TimeDownT0, Startup, StartupLag, StartupCost, PiecewiseProduction, PiecewiseProductionMw, PiecewiseProductionCost}
use Rattle.decimal_json.specs.Value.{Decimal, Value}
use Rattle.instance.specs.Fields.{key_of, number_in, entries_in, pairs_in, field_of}
use Rattle.instance.specs.Scaled.{MILLION, size_of, scaled, is_rounded, wholes_of, is_below_zero}
use Rattle.instance.specs.declared.fault.Place.{Place}
pub use Rattle.instance.specs.declared.fault.Refusal.{Refusal}
use Rattle.instance.specs.declared.reader.totals.Totals.{Totals}
use Rattle.instance.specs.declared.reader.thermal.Outputs.{Outputs}
use Rattle.instance.specs.declared.reader.thermal.Ramps.{Ramps}
use Rattle.instance.specs.declared.reader.thermal.Times.{Times}
use Rattle.instance.specs.declared.reader.thermal.Initial.{Initial}
use Rattle.instance.specs.declared.reader.thermal.Figures.{Figures}

-- ---- the codes of a refusal, and the kinds of unit in one. Source: the lines I1 to I8 that the program prints
-- The field is missing.
abbrev pub MISSING : ℕ
MISSING = 1

-- It is of another JSON kind than wanted.
abbrev pub OTHER_KIND : ℕ
OTHER_KIND = 2

-- It isn't whole.
abbrev pub NOT_WHOLE : ℕ
NOT_WHOLE = 3

-- It is past a limit in size or of a time.
abbrev pub PAST_LIMIT : ℕ
PAST_LIMIT = 4

-- It is outside its range.
abbrev pub OUT_OF_RANGE : ℕ
OUT_OF_RANGE = 5

-- The array is shorter than the number of periods.
abbrev pub TOO_SHORT : ℕ
TOO_SHORT = 6

-- There are too many periods, units or rows.
abbrev pub TOO_MANY : ℕ
TOO_MANY = 7

-- It is rounded, where only exact numbers are taken.
abbrev pub ROUNDED : ℕ
ROUNDED = 8

-- The fault is in no unit, in a thermal one, or in a renewable one.
abbrev pub NO_UNIT : ℕ
NO_UNIT = 0

abbrev pub THERMAL : ℕ
THERMAL = 1

abbrev pub RENEWABLE : ℕ
RENEWABLE = 2

-- ---- what is looked at, one step after another
-- The output that a next point of production cost is not below (the pglib-uc format lists points by output): the last
-- point's, and before the first point the least power that there is.
abbrev pub last_output : List Point → ℤ
last_output points = (slice_index_or points (length points - 1) (record { mw = neg_ℤ (pos MAX_POWER); cost = pos 0 })).mw

-- one step after another, up to the first fault
infixl 10 ◌>>=◌
abbrev pub ◌>>=◌ : {A B E : Type 0} → Result A E → (A → Result B E) → Result B E
(Ok x) >>= f = f x
(Err e) >>= f = Err e

abbrev pub refusal : ℕ → Place → Refusal
refusal code place = record { code = code; place = place }

-- a field itself, and an entry of it
abbrev pub whole : Field → Place
whole field = record { field = field; entry = 0 }

abbrev pub entry_of : Field → ℕ → Place
entry_of field entry = record { field = field; entry = entry }

-- a value that is there, and one that passes a test
abbrev pub wanted : {A : Type 0} → ℕ → Place → Option A → Result A Refusal
wanted code place None = Err (refusal code place)
wanted code place (Some x) = Ok x

abbrev pub refused_if : {A : Type 0} → Bool → ℕ → Place → A → Result A Refusal
refused_if test code place x = if test then Err (refusal code place) else Ok x

-- ---- one number

unfoldable pub number_at : Bool → Place → Value → Result Decimal Refusal
number_at exact place v = do
  d ← wanted OTHER_KIND place (number_in v)
  refused_if (exact && is_rounded d) ROUNDED place d

-- a power or a cost, of a size up to the most
unfoldable pub amount_at : ℕ → Bool → Place → Value → Result ℤ Refusal
amount_at most exact place v = do
  d ← number_at exact place v
  refused_if (nat_lt most (size_of d)) PAST_LIMIT place (scaled d)

abbrev pub power_at : Bool → Place → Value → Result ℤ Refusal
power_at = amount_at MAX_POWER

abbrev pub cost_at : Bool → Place → Value → Result ℤ Refusal
cost_at = amount_at MAX_COST

-- a power with a least one
unfoldable pub power_from : Bool → Place → ℤ → Value → Result ℤ Refusal
power_from exact place least v = do
  z ← power_at exact place v
  refused_if (int_lt z least) OUT_OF_RANGE place z

unfoldable pub whole_at : Bool → Place → Value → Result Decimal Refusal
whole_at exact place v = do
  d ← number_at exact place v
  refused_if (nat_lt 0 (size_of d % MILLION)) NOT_WHOLE place d

unfoldable pub time_at : Bool → Place → Value → Result ℕ Refusal
time_at exact place v = do
  d ← whole_at exact place v
  refused_if (is_below_zero d || nat_lt MAX_TIME (wholes_of d)) PAST_LIMIT place (wholes_of d)

unfoldable pub flag_at : Bool → Place → Value → Result Bool Refusal
flag_at exact place v = do
  d ← whole_at exact place v
  refused_if (is_below_zero d || nat_lt 1 (wholes_of d)) OUT_OF_RANGE place (wholes_of d == 1)

unfoldable pub periods_at : Bool → Place → Value → Result ℕ Refusal
periods_at exact place v = do
  d ← whole_at exact place v
  t ← refused_if (d.negative || wholes_of d == 0) OUT_OF_RANGE place (wholes_of d)
  refused_if (nat_lt MAX_PERIODS t) TOO_MANY place t

-- ---- fields, arrays and rows

abbrev pub field_at : Place → List (List ℕ × Value) → Result Value Refusal
field_at place ms = wanted MISSING place (field_of (key_of place.field) ms)

abbrev pub object_at : Place → Value → Result (List (List ℕ × Value)) Refusal
object_at place v = wanted OTHER_KIND place (pairs_in v)

abbrev pub array_at : Place → Value → Result (List Value) Refusal
array_at place v = wanted OTHER_KIND place (entries_in v)

-- the entries of an array up to the last period
unfoldable pub entries_at : Field → ℕ → List (List ℕ × Value) → Result (List Value) Refusal
entries_at field periods ms = do
  v ← field_at (whole field) ms
  vs ← array_at (whole field) v
  refused_if (nat_lt (length vs) periods) TOO_SHORT (whole field) (take periods vs)

-- the rows of a list of at least one and at most so many
unfoldable pub rows_at : Field → ℕ → List (List ℕ × Value) → Result (List Value) Refusal
rows_at field most ms = do
  v ← field_at (whole field) ms
  vs ← array_at (whole field) v
  rows ← refused_if (length vs == 0) OUT_OF_RANGE (whole field) vs
  refused_if (nat_lt most (length rows)) TOO_MANY (whole field) rows

-- One entry after another, each beside those before it: what is read stands at the end of a list.
unfoldable pub each_at : {A B E : Type 0} → (List A → B → Result A E) → List A → List B → Result (List A) E
each_at read front [] = Ok front
each_at read front (v ∷ vs) = do
  x ← read front v
  each_at read (front ++ x ∷ []) vs

-- the place of the entry behind those that were read
abbrev pub next_entry : {A : Type 0} → Field → List A → Place
next_entry field front = entry_of field (length front + 1)

abbrev pub power_entry : Bool → Field → List ℤ → Value → Result ℤ Refusal
power_entry exact field front v = power_at exact (next_entry field front) v

unfoldable pub powers_at : Bool → Field → ℕ → List (List ℕ × Value) → Result (List ℤ) Refusal
powers_at exact field periods ms = do
  vs ← entries_at field periods ms
  each_at (power_entry exact field) [] vs

-- an entry of a renewable unit's maximum, beside its minimum
abbrev pub maximum_entry : Bool → List ℤ → List ℤ → Value → Result ℤ Refusal
maximum_entry exact minimum front v =
    power_from exact (next_entry PowerOutputMaximum front) (int_max (slice_index_or minimum (length front) (pos 0)) (pos 0)) v

-- a time, a cost and a power with a least one, each at a place of a record
abbrev pub time_in : Bool → Place → List (List ℕ × Value) → Result ℕ Refusal
time_in exact place ms = field_at place ms >>= time_at exact place

abbrev pub cost_in : Bool → Place → List (List ℕ × Value) → Result ℤ Refusal
cost_in exact place ms = field_at place ms >>= cost_at exact place

abbrev pub power_in : Bool → Place → ℤ → List (List ℕ × Value) → Result ℤ Refusal
power_in exact place least ms = field_at place ms >>= power_from exact place least

unfoldable pub start_row : Bool → List StartRow → Value → Result StartRow Refusal
start_row exact front v = do
  ms ← object_at (next_entry Startup front) v
  lag ← time_in exact (next_entry StartupLag front) ms
  cost ← cost_in exact (next_entry StartupCost front) ms
  Ok (record { lag = lag; cost = cost })

-- a point is not below the one before it
unfoldable pub point_row : Bool → List Point → Value → Result Point Refusal
point_row exact front v = do
  ms ← object_at (next_entry PiecewiseProduction front) v
  mw ← power_in exact (next_entry PiecewiseProductionMw front) (last_output front) ms
  cost ← cost_in exact (next_entry PiecewiseProductionCost front) ms
  Ok (record { mw = mw; cost = cost })

-- ---- a thermal unit

abbrev pub flag_field : Bool → Field → List (List ℕ × Value) → Result Bool Refusal
flag_field exact field ms = field_at (whole field) ms >>= flag_at exact (whole field)

abbrev pub time_field : Bool → Field → List (List ℕ × Value) → Result ℕ Refusal
time_field exact field = time_in exact (whole field)

abbrev pub power_field : Bool → Field → ℤ → List (List ℕ × Value) → Result ℤ Refusal
power_field exact field = power_in exact (whole field)

-- a power of any sign
abbrev pub output_field : Bool → Field → List (List ℕ × Value) → Result ℤ Refusal
output_field exact field ms = field_at (whole field) ms >>= power_at exact (whole field)

unfoldable pub outputs_at : Bool → List (List ℕ × Value) → Result Outputs Refusal
outputs_at exact ms = do
  must_run ← flag_field exact MustRun ms
  pmin ← power_field exact PowerOutputMinimum (pos 0) ms
  pmax ← power_field exact PowerOutputMaximum pmin ms
  Ok (record { must_run = must_run; pmin = pmin; pmax = pmax })

unfoldable pub ramps_at : Bool → List (List ℕ × Value) → Result Ramps Refusal
ramps_at exact ms = do
  ru ← power_field exact RampUpLimit (pos 0) ms
  rd ← power_field exact RampDownLimit (pos 0) ms
  su ← power_field exact RampStartupLimit (pos 0) ms
  sd ← power_field exact RampShutdownLimit (pos 0) ms
  Ok (record { ru = ru; rd = rd; su = su; sd = sd })

-- a minimum time of 0 is read as 1
unfoldable pub times_at : Bool → List (List ℕ × Value) → Result Times Refusal
times_at exact ms = do
  up ← time_field exact TimeUpMinimum ms
  down ← time_field exact TimeDownMinimum ms
  Ok (record { up = max up 1; down = max down 1 })

unfoldable pub initial_at : Bool → List (List ℕ × Value) → Result Initial Refusal
initial_at exact ms = do
  output ← output_field exact PowerOutputT0 ms
  on ← flag_field exact UnitOnT0 ms
  up ← time_field exact TimeUpT0 ms
  down ← time_field exact TimeDownT0 ms
  Ok (record { output = output; on = on; up = up; down = down })

unfoldable pub startup_at : Bool → List (List ℕ × Value) → Result (List StartRow) Refusal
startup_at exact ms = do
  rows ← rows_at Startup MAX_START_ROWS ms
  each_at (start_row exact) [] rows

unfoldable pub points_at : Bool → List (List ℕ × Value) → Result (List Point) Refusal
points_at exact ms = do
  rows ← rows_at PiecewiseProduction MAX_POINTS ms
  each_at (point_row exact) [] rows

-- the fields that are one number
unfoldable pub figures_at : Bool → List (List ℕ × Value) → Result Figures Refusal
figures_at exact ms = do
  outputs ← outputs_at exact ms
  ramps ← ramps_at exact ms
  times ← times_at exact ms
  initial ← initial_at exact ms
  Ok (record { outputs = outputs; ramps = ramps; times = times; initial = initial })

-- a unit of its name and its parts
abbrev pub thermal_of : List ℕ → Figures → List StartRow → List Point → Thermal
thermal_of name figures startup points = record {
  name = name;
  must_run = figures.outputs.must_run;
  pmin = figures.outputs.pmin;
  pmax = figures.outputs.pmax;
  ru = figures.ramps.ru;
  rd = figures.ramps.rd;
  su = figures.ramps.su;
  sd = figures.ramps.sd;
  ut = figures.times.up;
  dt = figures.times.down;
  p0 = figures.initial.output;
  on0 = figures.initial.on;
  ut0 = figures.initial.up;
  dt0 = figures.initial.down;
  startup = startup;
  points = points;
}

unfoldable pub thermal_at : Bool → List ℕ → Value → Result Thermal Refusal
thermal_at exact name v = do
  ms ← object_at (whole NoField) v
  figures ← figures_at exact ms
  startup ← startup_at exact ms
  points ← points_at exact ms
  Ok (thermal_of name figures startup points)

-- ---- a renewable unit

unfoldable pub maxima_at : Bool → ℕ → List ℤ → List (List ℕ × Value) → Result (List ℤ) Refusal
maxima_at exact periods minimum ms = do
  vs ← entries_at PowerOutputMaximum periods ms
  each_at (maximum_entry exact minimum) [] vs

unfoldable pub renewable_at : Bool → ℕ → List ℕ → Value → Result Renewable Refusal
renewable_at exact periods name v = do
  ms ← object_at (whole NoField) v
  minimum ← powers_at exact PowerOutputMinimum periods ms
  maximum ← maxima_at exact periods minimum ms
  Ok (record { name = name; minimum = minimum; maximum = maximum })

-- ---- the instance

-- what refuses a record, with the unit that it is in
abbrev pub with_unit : ℕ → List ℕ → Refusal → FieldRefusal
with_unit kind unit e = record { code = e.code; kind_of_unit = kind; unit = unit; field = e.place.field; entry = e.place.entry }

abbrev pub in_unit : {A : Type 0} → ℕ → List ℕ → Result A Refusal → Result A FieldRefusal
in_unit kind unit (Ok x) = Ok x
in_unit kind unit (Err e) = Err (with_unit kind unit e)

abbrev pub outside : {A : Type 0} → Result A Refusal → Result A FieldRefusal
outside read = in_unit NO_UNIT [] read

unfoldable pub units_at : Field → List (List ℕ × Value) → Result (List (List ℕ × Value)) Refusal
units_at field ms = do
  v ← field_at (whole field) ms
  units ← object_at (whole field) v
  refused_if (nat_lt MAX_UNITS (length units)) TOO_MANY (whole field) units

abbrev pub thermal_member : Bool → List Thermal → List ℕ × Value → Result Thermal FieldRefusal
thermal_member exact front m = in_unit THERMAL m.0 (thermal_at exact m.0 m.1)

abbrev pub renewable_member : Bool → ℕ → List Renewable → List ℕ × Value → Result Renewable FieldRefusal
renewable_member exact periods front m = in_unit RENEWABLE m.0 (renewable_at exact periods m.0 m.1)

unfoldable pub thermal_units_at : Bool → List (List ℕ × Value) → Result (List Thermal) FieldRefusal
thermal_units_at exact ms = do
  units ← outside (units_at ThermalGenerators ms)
  each_at (thermal_member exact) [] units

unfoldable pub renewable_units_at : Bool → ℕ → List (List ℕ × Value) → Result (List Renewable) FieldRefusal
renewable_units_at exact periods ms = do
  units ← outside (units_at RenewableGenerators ms)
  each_at (renewable_member exact periods) [] units

unfoldable pub totals_at : Bool → List (List ℕ × Value) → Result Totals Refusal
totals_at exact ms = do
  periods ← field_at (whole TimePeriods) ms >>= periods_at exact (whole TimePeriods)
  demand ← powers_at exact Demand periods ms
  reserves ← powers_at exact Reserves periods ms
  Ok (record { periods = periods; demand = demand; reserves = reserves })

unfoldable pub instance_at : Bool → Value → Result Instance FieldRefusal
instance_at exact v = do
  ms ← outside (object_at (whole NoField) v)
  totals ← outside (totals_at exact ms)
  thermal ← thermal_units_at exact ms
  renewable ← renewable_units_at exact totals.periods ms
  Ok (record { periods = totals.periods; demand = totals.demand; reserves = totals.reserves; thermal = thermal; renewable = renewable; a = 0; b = 0 })

-- ---- How many of the numbers of an instance file that are read are rounded.
-- 1 for a number that is rounded
unfoldable pub rounded_value : Value → ℕ
rounded_value v = elim (number_in v) [ None ↦ 0 | Some d ↦ (if is_rounded d then 1 else 0) ]

unfoldable pub rounded_field : Field → List (List ℕ × Value) → ℕ
rounded_field field ms = elim (field_of (key_of field) ms) [ None ↦ 0 | Some v ↦ rounded_value v ]

-- the entries of a field that is an array, and the members of an object
abbrev pub entries_field : Field → List (List ℕ × Value) → List Value
entries_field field ms = unwrap_or (option_and_then entries_in (field_of (key_of field) ms)) []

abbrev pub members_field : Field → List (List ℕ × Value) → List (List ℕ × Value)
members_field field ms = unwrap_or (option_and_then pairs_in (field_of (key_of field) ms)) []

abbrev pub members_of_value : Value → List (List ℕ × Value)
members_of_value v = unwrap_or (pairs_in v) []

-- in an array up to the last period
unfoldable pub rounded_array : Field → ℕ → List (List ℕ × Value) → ℕ
rounded_array field periods ms = sum_by rounded_value (take periods (entries_field field ms))

-- in a row of startup, and in one of piecewise_production
unfoldable pub rounded_start_row : Value → ℕ
rounded_start_row v = rounded_field StartupLag (members_of_value v) + rounded_field StartupCost (members_of_value v)

unfoldable pub rounded_point : Value → ℕ
rounded_point v = rounded_field PiecewiseProductionMw (members_of_value v) + rounded_field PiecewiseProductionCost (members_of_value v)

unfoldable pub rounded_startup : List (List ℕ × Value) → ℕ
rounded_startup ms = sum_by rounded_start_row (entries_field Startup ms)

unfoldable pub rounded_points : List (List ℕ × Value) → ℕ
rounded_points ms = sum_by rounded_point (entries_field PiecewiseProduction ms)

-- in the parts of a thermal unit
unfoldable pub rounded_outputs : List (List ℕ × Value) → ℕ
rounded_outputs ms = rounded_field MustRun ms + rounded_field PowerOutputMinimum ms + rounded_field PowerOutputMaximum ms

unfoldable pub rounded_ramps : List (List ℕ × Value) → ℕ
rounded_ramps ms = rounded_field RampUpLimit ms + rounded_field RampDownLimit ms + rounded_field RampStartupLimit ms + rounded_field RampShutdownLimit ms

unfoldable pub rounded_times : List (List ℕ × Value) → ℕ
rounded_times ms = rounded_field TimeUpMinimum ms + rounded_field TimeDownMinimum ms

unfoldable pub rounded_initial : List (List ℕ × Value) → ℕ
rounded_initial ms = rounded_field PowerOutputT0 ms + rounded_field UnitOnT0 ms + rounded_field TimeUpT0 ms + rounded_field TimeDownT0 ms

unfoldable pub rounded_figures : List (List ℕ × Value) → ℕ
rounded_figures ms = rounded_outputs ms + rounded_ramps ms + rounded_times ms + rounded_initial ms

unfoldable pub rounded_thermal : Value → ℕ
rounded_thermal v =
    let ms = members_of_value v in
    rounded_figures ms + rounded_startup ms + rounded_points ms

unfoldable pub rounded_renewable : ℕ → Value → ℕ
rounded_renewable periods v =
    rounded_array PowerOutputMinimum periods (members_of_value v) + rounded_array PowerOutputMaximum periods (members_of_value v)

unfoldable pub rounded_thermal_units : List (List ℕ × Value) → ℕ
rounded_thermal_units ms = sum_by (λ (m : List ℕ × Value). rounded_thermal m.1) (members_field ThermalGenerators ms)

unfoldable pub rounded_renewable_units : ℕ → List (List ℕ × Value) → ℕ
rounded_renewable_units periods ms = sum_by (λ (m : List ℕ × Value). rounded_renewable periods m.1) (members_field RenewableGenerators ms)

-- in the fields of the whole system
unfoldable pub rounded_totals : ℕ → List (List ℕ × Value) → ℕ
rounded_totals periods ms = rounded_field TimePeriods ms + rounded_array Demand periods ms + rounded_array Reserves periods ms

-- in a whole instance file, of so many periods
unfoldable pub rounded_instance : ℕ → Value → ℕ
rounded_instance periods v =
    let ms = members_of_value v in
    rounded_totals periods ms + rounded_thermal_units ms + rounded_renewable_units periods ms
