-- The names of the fields of an instance file (the pglib-uc format), and how a field is looked up in an
-- object (RFC 8259, section 4).
use Rattle.std.specs.Prelude.{ℕ, List, [], ◌∷◌, Option, Some, None, codes, if◌then◌else◌}
use Rattle.std.specs.Str.{bytes_eq}
use Rattle.decimal_json.specs.Value.{Decimal, Value, number, array, object, Items, no_items, item, Members, no_members, member}
pub use Rattle.uc_model.specs.declared.field.Field.{Field}
pub use Rattle.uc_model.specs.declared.field.Field.TheVariants.{NoField, TimePeriods, Demand, Reserves, ThermalGenerators, RenewableGenerators, MustRun, PowerOutputMinimum, PowerOutputMaximum, RampUpLimit, RampDownLimit, RampStartupLimit, RampShutdownLimit, TimeUpMinimum, TimeDownMinimum, PowerOutputT0, UnitOnT0, TimeUpT0, TimeDownT0, Startup, StartupLag, StartupCost, PiecewiseProduction, PiecewiseProductionMw, PiecewiseProductionCost}

-- the name of a field in the object that has it
unfoldable pub key_of : Field → List ℕ
key_of NoField = []
key_of TimePeriods = codes "time_periods"
key_of Demand = codes "demand"
key_of Reserves = codes "reserves"
key_of ThermalGenerators = codes "thermal_generators"
key_of RenewableGenerators = codes "renewable_generators"
key_of MustRun = codes "must_run"
key_of PowerOutputMinimum = codes "power_output_minimum"
key_of PowerOutputMaximum = codes "power_output_maximum"
key_of RampUpLimit = codes "ramp_up_limit"
key_of RampDownLimit = codes "ramp_down_limit"
key_of RampStartupLimit = codes "ramp_startup_limit"
key_of RampShutdownLimit = codes "ramp_shutdown_limit"
key_of TimeUpMinimum = codes "time_up_minimum"
key_of TimeDownMinimum = codes "time_down_minimum"
key_of PowerOutputT0 = codes "power_output_t0"
key_of UnitOnT0 = codes "unit_on_t0"
key_of TimeUpT0 = codes "time_up_t0"
key_of TimeDownT0 = codes "time_down_t0"
key_of Startup = codes "startup"
key_of StartupLag = codes "lag"
key_of StartupCost = codes "cost"
key_of PiecewiseProduction = codes "piecewise_production"
key_of PiecewiseProductionMw = codes "mw"
key_of PiecewiseProductionCost = codes "cost"

-- the entries of an array, and the members of an object as keys and values, in the order of the file
abbrev pub entries_of : Items → List Value
entries_of no_items = []
entries_of (item v vs) = v ∷ entries_of vs

abbrev pub pairs_of : Members → List (List ℕ × Value)
pairs_of no_members = []
pairs_of (member key v ms) = (key, v) ∷ pairs_of ms

-- the entries, where a value is an array
abbrev pub entries_in : Value → Option (List Value)
entries_in (array vs) = Some (entries_of vs)
entries_in _ = None

-- the members, where a value is an object
abbrev pub pairs_in : Value → Option (List (List ℕ × Value))
pairs_in (object ms) = Some (pairs_of ms)
pairs_in _ = None

-- the value of the member with a key
abbrev pub field_of : List ℕ → List (List ℕ × Value) → Option Value
field_of key [] = None
field_of key (m ∷ ms) = if bytes_eq m.0 key then Some m.1 else field_of key ms

-- the number, where a value is one
abbrev pub number_in : Value → Option Decimal
number_in (number d) = Some d
number_in _ = None
