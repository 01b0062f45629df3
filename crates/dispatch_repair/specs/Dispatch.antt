-- The dispatch of a commitment: its schedule in merit order. Source: economic dispatch by the merit order of incremental costs,
-- within the rules of the reference model by Knueven, Ostrowski and Watson; that a period is filled for itself is this project's own.
use Rattle.std.specs.Prelude.{◌≡◌, ℕ, ◌<◌, false, List, ℤ, IsTrue, All, length}
use Rattle.uc_model.specs.Prelude.{starts, category_cost, thermal_unit, thermal_count, renewable_count, demand_at, reserve_at, cell_at, shed_at, short_at}
pub use Rattle.uc_model.specs.declared.instance.Instance.{Instance}
pub use Rattle.uc_model.specs.declared.pattern.Pattern.{Pattern}
pub use Rattle.uc_model.specs.declared.schedule.Cell.{Cell}
pub use Rattle.uc_model.specs.declared.schedule.Printed.{Printed}
use Rattle.start_costs.specs.Cheapest.{IsCheapestAbove}
use Rattle.schedule_check.specs.SizedNumbers.{output_at}
use Rattle.dispatch_repair.specs.Period.{Period, Source, FromRenewable, FromThermal, commitment_at, output_before}
use Rattle.dispatch_repair.specs.Shortage.{served, shed_of, short_of}
use Rattle.dispatch_repair.specs.MeritOrder.{IsInMeritOrder, IsReserveInOrder}

-- the schedule has a row for each unit, with a cell for each of the first periods, and what is missing in each, in whole watts
pub record HasPeriods (instance : Instance) (periods : ℕ) (printed : Printed) : Type 0 where
  pub thermal : length printed.thermal ≡ thermal_count instance
  pub cells : All (λ row. length row ≡ periods) printed.thermal
  pub renewable : length printed.renewable ≡ renewable_count instance
  pub outputs : All (λ row. length row ≡ periods) printed.renewable
  pub shed : length printed.shed ≡ periods
  pub short : length printed.short ≡ periods
  pub whole : printed.denominator ≡ 1

-- a cell is the commitment's: a start takes the cheapest category that the history allows, the first of several
pub record IsCommittedCell (instance : Instance) (patterns : List Pattern) (g t : ℕ) (cell : Cell) : Type 0 where
  pub on : cell.on ≡ commitment_at patterns g t
  pub start : IsTrue (starts (thermal_unit instance g) (commitment_at patterns g) t)
      → IsCheapestAbove (thermal_unit instance g) (commitment_at patterns g) t 0 (cell.category, category_cost (thermal_unit instance g) cell.category)
  pub none : starts (thermal_unit instance g) (commitment_at patterns g) t ≡ false → cell.category ≡ 0

-- what each source gives, by the cells and the renewable units' outputs of a period
abbrev pub amounts : (ℕ → Cell) → (ℕ → ℤ) → Source → ℤ
amounts cell output (FromRenewable w) = output w
amounts cell output (FromThermal g) = (cell g).p

-- period t, with what each unit gave in the period before
abbrev pub period_after : Instance → List Pattern → ℕ → (ℕ → ℤ) → Period
period_after instance patterns t before = record {
  instance = instance;
  on = commitment_at patterns;
  t = t;
  before = before;
  demand = demand_at instance t;
  need = reserve_at instance t;
}

-- period t of the commitment: what is missing, and of what is served the cells and outputs, in merit order, with reserve in the
-- order of the file
pub record IsFilling (instance : Instance) (patterns : List Pattern) (t : ℕ) (before : ℕ → ℤ) (cell : ℕ → Cell) (output : ℕ → ℤ) (shed short : ℤ) : Type 0 where
  pub cells : (g : ℕ) → g < thermal_count instance → IsCommittedCell instance patterns g t (cell g)
  pub unserved : shed ≡ shed_of (period_after instance patterns t before)
  pub missing : short ≡ short_of (period_after instance patterns t before)
  pub merit : IsInMeritOrder (served (period_after instance patterns t before) shed short) (amounts cell output)
  pub reserve : IsReserveInOrder (served (period_after instance patterns t before) shed short) (amounts cell output) (λ g. (cell g).r)

-- period t of a printed schedule is filled so, from the one before
abbrev pub IsFilled : Instance → List Pattern → Printed → ℕ → Type 0
IsFilled instance patterns printed t =
    IsFilling instance patterns t (λ g. output_before instance printed g t) (λ g. cell_at printed g t) (λ w. output_at printed w t)
    (shed_at printed t) (short_at printed t)

-- the first periods of the dispatch of a commitment
pub record IsDispatchThrough (instance : Instance) (patterns : List Pattern) (periods : ℕ) (printed : Printed) : Type 0 where
  pub shape : HasPeriods instance periods printed
  pub filled : (t : ℕ) → t < periods → IsFilled instance patterns printed t
