-- The line on standard error for a fault that ends the program, and the exit status. This project's own form. Units and periods
-- count from 1 in the text, and from 0 in the types.
use Rattle.std.specs.Prelude.{ℕ, zero, suc, Bool, true, false, nat_lt, List, [], ◌∷◌, ℤ, codes, ◌==◌, if◌then◌else◌}
use Rattle.uc_model.specs.Decimal.{whole_text}
use Rattle.uc_model.specs.Money.{money_text}
use Rattle.uc_model.specs.declared.field.Field.{Field}
use Rattle.uc_model.specs.declared.field_refusal.FieldRefusal.{FieldRefusal}
use Rattle.uc_model.specs.declared.field.Field.TheVariants as field
use Rattle.uc_model.specs.declared.refusal.Refusal.{Refusal}
use Rattle.uc_model.specs.declared.refusal.Refusal.TheVariants.{C1, C2, C3, C4, C5, C6, C7, C8, C9, C10}
use Rattle.outside.specs.declared.slot.Slot.{Slot}
use Rattle.outside.specs.declared.slot.Slot.TheVariants as slot
use Rattle.outside.specs.Lines.{joined, line}
use Rattle.report.specs.Names.{unit_words}
use Rattle.report.specs.declared.fault.Fault.{Fault}
use Rattle.report.specs.declared.fault.Fault.TheVariants.{Words, Read, Write, Memory, Long, Json, Instance, Line, Code, NoUplift}
use Rattle.report.specs.declared.fault.UpliftRefusal.{UpliftRefusal}
use Rattle.report.specs.declared.fault.UpliftRefusal.TheVariants.{NoSchedule, Fractions, NoTable, Ray}

-- the exit status: 4 a faulty instance, 5 faulty words, 6 a read, 7 a write, 8 memory, 9 a certificate that is refused or has no
-- uplifts
abbrev pub status_of : Fault → ℕ
status_of Words = 5
status_of (Read slot) = 6
status_of (Write output) = 7
status_of Memory = 8
status_of (Long slot.Instance) = 4
status_of (Long slot.CertIn) = 9
status_of (Long slot.CertOut) = 9
status_of (Json byte kind) = 4
status_of (Instance refusal) = 4
status_of (Line number kind) = 9
status_of (Code refusal) = 9
status_of (NoUplift refusal) = 9

-- how the program is called, in three lines
abbrev pub usage_text : List ℕ
usage_text =
    joined (line (codes "usage: uc solve FILE --cert FILE [--units N] [--workers N] [--gap PPM] [--exact]") []
    ∷ line (codes "       uc check FILE CERT") [] ∷ line (codes "       uc demo SEED") [] ∷ [])

abbrev pub slot_text : Slot → List ℕ
slot_text slot.Instance = codes "instance"
slot_text slot.CertIn = codes "certificate"
slot_text slot.CertOut = codes "certificate"

abbrev pub read_line : Slot → List ℕ
read_line slot = joined (codes "read failed: " ∷ slot_text slot ∷ codes "\n" ∷ [])

abbrev pub write_line : Bool → List ℕ
write_line true = line (codes "write failed: output") []
write_line false = line (codes "write failed: certificate") []

abbrev pub long_line : Slot → List ℕ
long_line slot.Instance = line (codes "instance: more than 67108864 bytes") []
long_line slot.CertIn = line (codes "certificate: more than 70368744177664 bytes") []
long_line slot.CertOut = line (codes "certificate: more than 70368744177664 bytes") []

-- what is wrong at a byte of the file, by its kind from 1 to 5; another kind has no text
abbrev pub json_text : ℕ → List ℕ
json_text kind =
    if kind == 1 then codes "not UTF-8" else (if kind == 2 then codes "no JSON"
    else (if kind == 3 then codes "nested too deep" else (if kind == 4 then codes "key twice"
    else (if kind == 5 then codes "unpaired surrogate" else []))))

-- bytes count from 0
abbrev pub json_line : ℕ → ℕ → List ℕ
json_line byte kind = joined (codes "instance: byte " ∷ whole_text byte ∷ codes ": " ∷ json_text kind ∷ codes "\n" ∷ [])

-- the field's name in the file, after a space
abbrev pub field_text : Field → List ℕ
field_text field.NoField = []
field_text field.TimePeriods = codes " time_periods"
field_text field.Demand = codes " demand"
field_text field.Reserves = codes " reserves"
field_text field.ThermalGenerators = codes " thermal_generators"
field_text field.RenewableGenerators = codes " renewable_generators"
field_text field.MustRun = codes " must_run"
field_text field.PowerOutputMinimum = codes " power_output_minimum"
field_text field.PowerOutputMaximum = codes " power_output_maximum"
field_text field.RampUpLimit = codes " ramp_up_limit"
field_text field.RampDownLimit = codes " ramp_down_limit"
field_text field.RampStartupLimit = codes " ramp_startup_limit"
field_text field.RampShutdownLimit = codes " ramp_shutdown_limit"
field_text field.TimeUpMinimum = codes " time_up_minimum"
field_text field.TimeDownMinimum = codes " time_down_minimum"
field_text field.PowerOutputT0 = codes " power_output_t0"
field_text field.UnitOnT0 = codes " unit_on_t0"
field_text field.TimeUpT0 = codes " time_up_t0"
field_text field.TimeDownT0 = codes " time_down_t0"
field_text field.Startup = codes " startup"
field_text field.StartupLag = codes " startup.lag"
field_text field.StartupCost = codes " startup.cost"
field_text field.PiecewiseProduction = codes " piecewise_production"
field_text field.PiecewiseProductionMw = codes " piecewise_production.mw"
field_text field.PiecewiseProductionCost = codes " piecewise_production.cost"

-- the unit, by its kind (1 thermal, 2 renewable, else none) and name, after a space
abbrev pub owner_text : ℕ → List ℕ → List ℕ
owner_text kind name =
    if kind == 1 then unit_words (codes " thermal") name
    else (if kind == 2 then unit_words (codes " renewable") name else [])

-- the entry of an array, from 1, after a space; 0 is none
abbrev pub entry_text : ℕ → List ℕ
entry_text zero = []
entry_text (suc entry) = 32 ∷ whole_text (suc entry)

-- the code, and the field and the entry of a unit or of the whole instance
abbrev pub instance_line : FieldRefusal → List ℕ
instance_line refusal =
    joined (codes "instance: I" ∷ whole_text refusal.code ∷ owner_text refusal.kind_of_unit refusal.unit
    ∷ field_text refusal.field ∷ entry_text refusal.entry ∷ codes "\n" ∷ [])

-- what is wrong at a line, by its kind from 1 to 3; another kind has no text
abbrev pub line_fault_text : ℕ → List ℕ
line_fault_text kind =
    if kind == 1 then codes "form" else (if kind == 2 then codes "cut short"
    else (if kind == 3 then codes "bytes after the end" else []))

-- lines count from 1 here and in the type
abbrev pub certificate_line : ℕ → ℕ → List ℕ
certificate_line number kind =
    joined (codes "certificate: line " ∷ whole_text number ∷ codes ": " ∷ line_fault_text kind ∷ codes "\n" ∷ [])

-- a rule that the schedule breaks, for a unit of a kind or for a whole period
abbrev pub unit_rule_line : ℕ → List ℕ → ℕ → ℕ → List ℕ
unit_rule_line rule kind unit period =
    joined (codes "certificate: C2 M" ∷ whole_text rule ∷ kind ∷ whole_text (suc unit) ∷ codes " period "
    ∷ whole_text (suc period) ∷ codes "\n" ∷ [])

abbrev pub period_rule_line : ℕ → ℕ → List ℕ
period_rule_line rule period =
    joined (codes "certificate: C2 M" ∷ whole_text rule ∷ codes " period " ∷ whole_text (suc period) ∷ codes "\n" ∷ [])

-- rule 13 speaks of a renewable unit, 14 to 17 of a whole period, the others of a thermal unit
abbrev pub rule_line : ℕ → ℕ → ℕ → List ℕ
rule_line rule unit period =
    if rule == 13 then unit_rule_line rule (codes " renewable ") unit period
    else (if nat_lt 13 rule then period_rule_line rule period
    else unit_rule_line rule (codes " thermal ") unit period)

abbrev pub costs_line : ℤ → ℤ → List ℕ
costs_line written computed =
    joined (codes "certificate: C3 written " ∷ money_text written ∷ codes " computed " ∷ money_text computed ∷ codes "\n" ∷ [])

-- why the certificate is refused; tables and nodes count from 1 here and in the type
abbrev pub refusal_line : Refusal → List ℕ
refusal_line (C1 table) = line (codes "certificate: C1 table") (whole_text table ∷ [])
refusal_line (C2 rule unit period) = rule_line rule unit period
refusal_line (C3 written computed) = costs_line written computed
refusal_line (C4 node) = line (codes "certificate: C4 node") (whole_text node ∷ [])
refusal_line (C5 node) = line (codes "certificate: C5 node") (whole_text node ∷ [])
refusal_line (C6 node) = line (codes "certificate: C6 node") (whole_text node ∷ [])
refusal_line (C7 node) = line (codes "certificate: C7 node") (whole_text node ∷ [])
refusal_line C8 = line (codes "certificate: C8") []
refusal_line C9 = line (codes "certificate: C9") []
refusal_line C10 = line (codes "certificate: C10") []

-- why a certificate that holds has no uplifts
abbrev pub no_uplift_line : UpliftRefusal → List ℕ
no_uplift_line NoSchedule = line (codes "certificate: C11") []
no_uplift_line Fractions = line (codes "certificate: C12") []
no_uplift_line NoTable = line (codes "certificate: C13") []
no_uplift_line Ray = line (codes "certificate: C14") []

-- the whole text, with its line feed
abbrev pub fault_text : Fault → List ℕ
fault_text Words = usage_text
fault_text (Read slot) = read_line slot
fault_text (Write output) = write_line output
fault_text Memory = line (codes "out of memory") []
fault_text (Long slot) = long_line slot
fault_text (Json byte kind) = json_line byte kind
fault_text (Instance refusal) = instance_line refusal
fault_text (Line number kind) = certificate_line number kind
fault_text (Code refusal) = refusal_line refusal
fault_text (NoUplift refusal) = no_uplift_line refusal
