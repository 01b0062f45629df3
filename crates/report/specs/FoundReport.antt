-- The report of what a search found, as it is printed. This project's own form. Money and power have six decimals; units and
-- periods count from 1 here, and from 0 in the types. Where a schedule has a denominator, its powers are told as numerators.
use Rattle.std.specs.Prelude.{ℕ, zero, suc, nat_lt, Bool, List, [], ◌∷◌, ◌++◌, ℤ, pos, ◌+ℤ◌, ◌*ℤ◌, Option, Some, None, length, flat_map, codes, if◌then◌else◌}
use Rattle.std.specs.List.{zip}
use Rattle.uc_model.specs.Prelude.{thermal_unit, thermal_count, renewable_count}
use Rattle.uc_model.specs.Decimal.{whole_text}
use Rattle.uc_model.specs.Money.{money_text}
use Rattle.uc_model.specs.declared.instance.Thermal.{Thermal}
use Rattle.uc_model.specs.declared.instance.Renewable.{Renewable}
use Rattle.uc_model.specs.declared.instance.Instance.{Instance}
use Rattle.uc_model.specs.declared.schedule.Cell.{Cell}
pub use Rattle.uc_model.specs.declared.schedule.Printed.{Printed}
use Rattle.uc_model.specs.declared.stuck.Why.{Why}
use Rattle.uc_model.specs.declared.stuck.Why.TheVariants.{Rule, Box, Over, Under, Reserve}
use Rattle.uc_model.specs.declared.stuck.Stuck.{Stuck}
pub use Rattle.branch_tree.specs.declared.found.Found.{Found}
use Rattle.branch_tree.specs.Prelude.{tree_bound, is_within_gap}
use Rattle.outside.specs.Lines.{joined, line, list_line}
use Rattle.report.specs.Names.{unit_words}

-- the numbers of periods, of units, and of the file's numbers that were rounded
abbrev pub size_line : Instance → ℕ → List ℕ
size_line instance rounded =
    line (codes "periods") (whole_text instance.periods ∷ codes "thermal" ∷ whole_text (thermal_count instance)
    ∷ codes "renewable" ∷ whole_text (renewable_count instance) ∷ codes "rounded" ∷ whole_text rounded ∷ [])

abbrev pub state_line : Bool → List ℕ
state_line closed = line (if closed then codes "closed" else codes "budget spent") []

abbrev pub cost_line : ℤ → List ℕ
cost_line cost = line (codes "cost") (money_text cost ∷ [])

-- no line where there is no bound
abbrev pub bound_line : Option ℤ → List ℕ
bound_line None = []
bound_line (Some bound) = line (codes "bound") (money_text bound ∷ [])

abbrev pub evaluations_line : Found → List ℕ
evaluations_line found = line (codes "evaluations") (whole_text (length found.log) ∷ [])

-- the category of a start; 0 is no start
abbrev pub start_text : ℕ → List ℕ
start_text zero = []
start_text (suc s) = codes "*" ++ whole_text (suc s)

-- the denominator of the powers, where they aren't whole watts
abbrev pub denominator_line : ℕ → List ℕ
denominator_line denominator =
    if nat_lt 1 denominator then line (codes "denominator") (whole_text denominator ∷ []) else []

-- a cell: `-`, or total output, reserve and the category of a start; powers are numerators over the denominator d
abbrev pub cell_text : ℕ → Thermal → Cell → List ℕ
cell_text d unit cell =
    if cell.on then joined (money_text (cell.p +ℤ pos d *ℤ unit.pmin) ∷ codes "+" ∷ money_text cell.r ∷ start_text cell.category ∷ [])
    else codes "-"

abbrev pub thermal_line : ℕ → Thermal → List Cell → List ℕ
thermal_line d unit row = list_line (unit_words (codes "thermal") unit.name) (cell_text d unit) row

abbrev pub renewable_line : Renewable → List ℤ → List ℕ
renewable_line unit row = list_line (unit_words (codes "renewable") unit.name) money_text row

-- the line of a unit and its row
abbrev pub paired_thermal_line : ℕ → Thermal × List Cell → List ℕ
paired_thermal_line d pair = thermal_line d pair.0 pair.1

abbrev pub paired_renewable_line : Renewable × List ℤ → List ℕ
paired_renewable_line pair = renewable_line pair.0 pair.1

-- a line for each unit that has a row, in the order of the file
abbrev pub thermal_lines : ℕ → List Thermal → List (List Cell) → List ℕ
thermal_lines d units rows = flat_map (paired_thermal_line d) (zip units rows)

abbrev pub renewable_lines : List Renewable → List (List ℤ) → List ℕ
renewable_lines units rows = flat_map paired_renewable_line (zip units rows)

-- powers that are missing, where that has a price
abbrev pub priced_line : List ℕ → ℕ → List ℤ → List ℕ
priced_line first zero powers = []
priced_line first (suc price) powers = list_line first money_text powers

-- the demand that is unserved, and the reserve that is short
abbrev pub shortage_lines : Instance → Printed → List ℕ
shortage_lines instance printed =
    joined (priced_line (codes "shed") instance.a printed.shed ∷ priced_line (codes "reserve-short") instance.b printed.short ∷ [])

-- a thermal unit by its name
abbrev pub thermal_words : Instance → ℕ → List ℕ
thermal_words instance unit = unit_words (codes "thermal") (thermal_unit instance unit).name

-- why a commitment could not be dispatched
abbrev pub why_line : Instance → Why → List ℕ
why_line instance (Rule rule unit) = line (thermal_words instance unit) (codes "breaks" ∷ (codes "M" ++ whole_text rule) ∷ [])
why_line instance (Box unit low high) =
    joined (thermal_words instance unit ∷ codes " needs at least " ∷ money_text low ∷ codes " and at most " ∷ money_text high
    ∷ codes " above its minimum\n" ∷ [])
why_line instance (Over least demand) =
    line (codes "least output") (money_text least ∷ codes "above demand" ∷ money_text demand ∷ [])
why_line instance (Under most demand) =
    line (codes "most output") (money_text most ∷ codes "below demand" ∷ money_text demand ∷ [])
why_line instance (Reserve room need) =
    line (codes "reserve") (money_text room ∷ codes "below need" ∷ money_text need ∷ [])

-- where and why the commitment with the most on periods could not be dispatched, where this is known
abbrev pub stuck_line : Instance → Option Stuck → List ℕ
stuck_line instance None = []
stuck_line instance (Some stuck) =
    joined (codes "most-on commitment stuck in period " ∷ whole_text (suc stuck.period) ∷ codes ": " ∷ why_line instance stuck.why ∷ [])

-- the first lines of a schedule with its cost: whether it is within the gap, cost, bound and evaluations
abbrev pub schedule_summary : Found → ℕ → ℤ → List ℕ
schedule_summary found gap cost =
    joined (state_line (is_within_gap cost (tree_bound found.tree) gap) ∷ cost_line cost ∷ bound_line (tree_bound found.tree)
    ∷ evaluations_line found ∷ [])

-- the rows of a schedule, behind the denominator of their powers
abbrev pub schedule_lines : Instance → Printed → List ℕ
schedule_lines instance printed =
    joined (denominator_line printed.denominator ∷ thermal_lines printed.denominator instance.thermal printed.thermal
    ∷ renewable_lines instance.renewable printed.renewable ∷ shortage_lines instance printed ∷ [])

-- and then its rows
abbrev pub schedule_report : Instance → Found → ℕ → Printed → ℤ → List ℕ
schedule_report instance found gap printed cost = joined (schedule_summary found gap cost ∷ schedule_lines instance printed ∷ [])

-- the first lines without a schedule: with no bound there is none, and else there may be one
abbrev pub no_schedule_summary : Found → Option ℤ → List ℕ
no_schedule_summary found None = joined (line (codes "infeasible") [] ∷ evaluations_line found ∷ [])
no_schedule_summary found (Some bound) =
    joined (line (codes "budget spent, no schedule found") [] ∷ bound_line (Some bound) ∷ evaluations_line found ∷ [])

-- and then, where there may be one, why none was found
abbrev pub no_schedule_report : Instance → Found → Option ℤ → List ℕ
no_schedule_report instance found None = no_schedule_summary found None
no_schedule_report instance found (Some bound) =
    joined (no_schedule_summary found (Some bound) ∷ stuck_line instance found.most_on ∷ [])

abbrev pub outcome_report : Instance → Found → ℕ → Option (Printed × ℤ) → List ℕ
outcome_report instance found gap None = no_schedule_report instance found (tree_bound found.tree)
outcome_report instance found gap (Some priced) = schedule_report instance found gap priced.0 priced.1

-- the whole report, by how many numbers were rounded and by the gap in parts per million
abbrev pub found_report : Instance → Found → ℕ → ℕ → List ℕ
found_report instance found rounded gap =
    joined (size_line instance rounded ∷ outcome_report instance found gap found.schedule ∷ [])
