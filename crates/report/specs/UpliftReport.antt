-- The report of uplifts: a table's scale and prices, and what each unit, the shortages and the slacks of reserve and ramps add to the
-- duality gap. Each price and each number is whole, in 1/K micro-dollars, where K is the scale. This project's own form.
use Rattle.std.specs.Prelude.{ℕ, Bool, nat_lt, ◌||◌, List, [], ◌∷◌, ℤ, flat_map, codes, if◌then◌else◌}
use Rattle.std.specs.List.{zip}
use Rattle.uc_model.specs.Decimal.{signed_text}
use Rattle.uc_model.specs.declared.instance.Thermal.{Thermal}
use Rattle.uc_model.specs.declared.instance.Renewable.{Renewable}
pub use Rattle.uc_model.specs.declared.instance.Instance.{Instance}
pub use Rattle.dual_model.specs.declared.table.Table.{Table}
use Rattle.outside.specs.Lines.{joined, line, list_line}
use Rattle.report.specs.Names.{unit_words}
pub use Rattle.report.specs.declared.uplift.UpliftNumbers.{UpliftNumbers}

-- a line of one number, after its first word
abbrev pub number_line : List ℕ → ℤ → List ℕ
number_line first number = line first (signed_text number ∷ [])

-- the scale, and the price of demand and of reserve in each period
abbrev pub price_lines : Table → List ℕ
price_lines table =
    joined (number_line (codes "scale") table.k ∷ list_line (codes "price") signed_text table.pi
    ∷ list_line (codes "reserve-price") signed_text table.mu ∷ [])

-- a unit and its uplift
abbrev pub thermal_uplift_line : Thermal × ℤ → List ℕ
thermal_uplift_line pair = number_line (unit_words (codes "thermal") pair.0.name) pair.1

abbrev pub renewable_uplift_line : Renewable × ℤ → List ℕ
renewable_uplift_line pair = number_line (unit_words (codes "renewable") pair.0.name) pair.1

-- a line for each unit, in the order of the file
abbrev pub thermal_uplift_lines : List Thermal → List ℤ → List ℕ
thermal_uplift_lines units uplifts = flat_map thermal_uplift_line (zip units uplifts)

abbrev pub renewable_uplift_lines : List Renewable → List ℤ → List ℕ
renewable_uplift_lines units uplifts = flat_map renewable_uplift_line (zip units uplifts)

-- unserved demand, or missing reserve, has a price
abbrev pub has_shortage_price : Instance → Bool
has_shortage_price instance = nat_lt 0 instance.a || nat_lt 0 instance.b

-- what shortages add, where one of them has a price
abbrev pub shed_uplift_line : Instance → ℤ → List ℕ
shed_uplift_line instance shed = if has_shortage_price instance then number_line (codes "shed") shed else []

-- the whole report
abbrev pub uplift_report : Instance → Table → UpliftNumbers → List ℕ
uplift_report instance table numbers =
    joined (price_lines table ∷ thermal_uplift_lines instance.thermal numbers.thermal
    ∷ renewable_uplift_lines instance.renewable numbers.renewable ∷ shed_uplift_line instance numbers.shed
    ∷ number_line (codes "reserve-slack") numbers.reserve_slack ∷ number_line (codes "ramp-slack") numbers.ramp_slack
    ∷ number_line (codes "total") numbers.total ∷ [])
