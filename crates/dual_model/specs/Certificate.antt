-- When a certificate holds: its size is the instance's, its tables are lawful, its schedule obeys and costs
-- what is written, and its tree carries its claim. This project's own format.
use Rattle.std.specs.Prelude.{◌≡◌, ℕ, List, ℤ, Option, Some, None, IsTrue, All}
use Rattle.uc_model.specs.Prelude.{thermal_count, renewable_count, Obeys, HasShapeOf, printed_schedule, printed_denominator, printed_cost}
use Rattle.uc_model.specs.declared.schedule.Printed.{Printed}
use Rattle.dual_model.specs.Prices.{Instance, Table, IsLawfulTable}
use Rattle.dual_model.specs.Tree.{Tree, IsCover}
use Rattle.dual_model.specs.Cover.{Leaf, Holds, AllExcluded, has_bound}

-- a schedule with its cost in micro-dollars, as written
pub record WrittenSchedule : Type 0 where
  pub printed : Printed
  pub cost : ℤ

-- what a certificate says
pub record Certificate : Type 0 where
  pub periods : ℕ
  pub thermal : ℕ
  pub renewable : ℕ
  -- the prices of shortages, in micro-dollars for a watt and an hour, as `Instance` has them
  pub a : ℕ
  pub b : ℕ
  -- the bound that is claimed, or nothing where infeasibility is
  pub bound : Option ℤ
  pub schedule : Option WrittenSchedule
  pub tables : List Table
  pub tree : Tree Leaf

-- the printed schedule obeys, and the cost written is its printed cost
pub record ScheduleHolds (instance : Instance) (written : WrittenSchedule) : Type 0 where
  pub shape : HasShapeOf instance written.printed
  pub obeys :
      let q = printed_denominator instance written.printed in
      Obeys instance q (printed_schedule instance written.printed q)
  pub cost : written.cost ≡ printed_cost instance written.printed

-- the claim holds: a bound, with some leaf that is one; or infeasibility, with no schedule
abbrev pub ClaimHolds : Instance → Certificate → Option ℤ → Type 0
ClaimHolds instance certificate (Some b) = IsTrue (has_bound certificate.tree) × Holds instance certificate.tables certificate.tree b
ClaimHolds instance certificate None = (certificate.schedule ≡ None) × AllExcluded instance certificate.tables certificate.tree

-- the certificate holds for the instance
pub record CertificateHolds (instance : Instance) (certificate : Certificate) : Type 0 where
  pub periods : certificate.periods ≡ instance.periods
  pub thermal : certificate.thermal ≡ thermal_count instance
  pub renewable : certificate.renewable ≡ renewable_count instance
  pub penalty : (certificate.a ≡ instance.a) × (certificate.b ≡ instance.b)
  pub tables : All (IsLawfulTable instance) certificate.tables
  pub tree : IsCover instance certificate.tree
  pub schedule : (written : WrittenSchedule) → certificate.schedule ≡ Some written → ScheduleHolds instance written
  pub claim : ClaimHolds instance certificate certificate.bound
