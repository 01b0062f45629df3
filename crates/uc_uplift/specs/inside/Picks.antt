-- What is picked for uplifts from a certificate that was read. This project's own.
use Rattle.std.specs.Prelude.{◌≡◌, ℕ}
use Rattle.uc_model.specs.Prelude.{IsLawfulInstance, HasShapeOf, printed_denominator, printed_schedule, Obeys}
pub use Rattle.uc_model.specs.declared.instance.Instance.{Instance}
use Rattle.dual_model.specs.Prelude.{IsLawfulTable}
use Rattle.branch_tree.specs.Prelude.{written_of}
use Rattle.schedule_check.specs.SizedNumbers.{HasSizedNumbers}
pub use Rattle.cert_text.specs.declared.cert.Cert.{Cert}
use Rattle.uplift.specs.Uplift.{AreUplifts}
use Rattle.report.specs.declared.fault.Fault.{Fault}
use Rattle.report.specs.declared.fault.Fault.TheVariants.{NoUplift, Memory}
use Rattle.uc_check.specs.declared.verify.Checked.{Checked}
use Rattle.uc_uplift.specs.Uplifting.{Printed, Table, Uplifts, IsWholeSchedule, IsPriceTable, HasNoUplifts, told_numbers}
use Rattle.uc_uplift.specs.declared.uplifting.Uplifted.{Uplifted}

-- the schedule and the table of which uplifts are
pub record ArePicked (cert : Cert) (number : ℕ) (printed : Printed) (table : Table) : Type 0 where
  pub schedule : IsWholeSchedule (written_of cert.schedule) printed
  pub prices : IsPriceTable cert.tables number table

-- why there are none; that memory was refused says nothing of them
abbrev pub IsUnpicked : Cert → ℕ → Fault → Type 0
IsUnpicked cert number (NoUplift refusal) = HasNoUplifts (written_of cert.schedule) cert.tables number refusal
IsUnpicked cert number Memory = Unit {0}
IsUnpicked cert number _ = ⊥

-- what a schedule and a table have to meet to have uplifts
pub record MayHaveUplifts (instance : Instance) (printed : Printed) (table : Table) : Type 0 where
  pub lawful : IsLawfulInstance instance
  pub shape : HasShapeOf instance printed
  pub sized : HasSizedNumbers printed
  pub whole : printed.denominator ≡ 1
  pub obeys :
      let q = printed_denominator instance printed in
      Obeys instance q (printed_schedule instance printed q)
  pub prices : IsLawfulTable instance table

-- the table of the number, with the numbers of the uplifts at its prices
pub record IsUplifted (checked : Checked) (number : ℕ) (uplifted : Uplifted) : Type 0 where
  pub printed : Printed
  pub picked : ArePicked checked.cert number printed uplifted.table
  pub uplifts : Uplifts
  pub are : AreUplifts checked.instance printed uplifted.table uplifts
  pub numbers : uplifted.numbers ≡ told_numbers uplifts
