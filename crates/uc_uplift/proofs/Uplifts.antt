-- What a certificate that was checked gives for uplifts, and how a run of `uplift` ends by its steps: reading and checking (from the
-- files f to h), picking schedule and table, the uplifts, and the report.
use Rattle.std.proofs.Common.{◌≡◌, ◌∙◌, ℕ, zero, suc, ◌<◌, ◌≤◌, ◌-◌, length, get_or, true, List, All, sym, ap, subst, arith, Some, None}
use Rattle.std.proofs.lemmas.Option.{none-some, get_or_from_slice_get, slice_get_within, slice_get-get_or}
use Rattle.std.specs.Option.{IfSome}
use Rattle.dual_model.specs.Prelude.{Certificate, IsLawfulTable}
use Rattle.outside.specs.Prelude.{SlotState, SinkState}
use Rattle.outside.specs.declared.slot.Slot.{Slot}
use Rattle.branch_tree.specs.Prelude.{written_of}
use Rattle.cert_text.specs.CertificateText.{has_price, listing_of}
use Rattle.cert_text.specs.Reading.{listing_read}
use Rattle.cert_text.specs.TextConditions.{IsScheduleText}
use Rattle.uplift.specs.Uplift.{AreUplifts}
use Rattle.report.specs.UpliftReport.{uplift_report}
use Rattle.report.specs.declared.fault.Fault.TheVariants.{NoUplift, Memory, Write}
use Rattle.report.specs.declared.fault.Fault.{Fault}
use Rattle.command_line.specs.Command.{Check, Uplift}
use Rattle.command_runs.specs.Prelude.{Outside, outside_of, IsTold, FailsToTell}
use Rattle.uc_check.specs.Checking.{IsCheckStopped}
use Rattle.uc_check.specs.declared.verify.Checked.{Checked}
use Rattle.uc_check.specs.Checks.{IsChecked}
use Rattle.uc_uplift.specs.Uplifting.{Printed, Table, AreUpliftsTold, AreUpliftsUntold, HasUplifts, IsPriceTable, IsUpliftFailure, IsWholeSchedule, table_of, text_of_uplifts}
use Rattle.uc_uplift.specs.inside.Picks.{Cert, Instance, ArePicked, IsUnpicked, IsUplifted, MayHaveUplifts}
use Rattle.uc_uplift.specs.declared.uplifting.Uplifted.{Uplifted}
use Rattle.uc_uplift.proofs.TextNumbers.{sized_text}

-- ---- what was read is what the certificate lists
lawful_of : (instance : Instance) (tables : List Table) (n : ℕ) (table : Table) → All (IsLawfulTable instance) tables
    → table_of tables n ≡ Some table → IsLawfulTable instance table
lawful_of instance tables zero table all is = absurd (none-some table is)
lawful_of instance tables (suc i) table all is =
    subst (IsLawfulTable instance) (get_or_from_slice_get tables i table table is) (all i table (slice_get_within tables i table is))

pub schedule_of : (c : Certificate) (cert : Cert) (printed : Printed) → listing_of c ≡ listing_read cert
    → IsWholeSchedule (written_of cert.schedule) printed → IsWholeSchedule c.schedule printed
schedule_of c cert printed listed whole = grind (arith, listed, whole)

pub prices_of : (c : Certificate) (cert : Cert) (number : ℕ) (table : Table) → listing_of c ≡ listing_read cert
    → IsPriceTable cert.tables number table → IsPriceTable c.tables number table
prices_of c cert number table listed prices = grind (arith, listed, prices)

-- so the schedule holds, and the table is lawful
pub may_have_uplifts : (asked : Check) (f h : Slot → SlotState) (checked : Checked) (number : ℕ) (printed : Printed) (table : Table)
    → IsChecked asked f h checked → ArePicked checked.cert number printed table → MayHaveUplifts checked.instance printed table
may_have_uplifts asked f h checked number printed table is picked =
    let whole = schedule_of is.certificate checked.cert printed is.listed picked.schedule in
    let prices = prices_of is.certificate checked.cert number table is.listed picked.prices in
    let holds = is.verified.holds.schedule (record { printed = printed; cost = whole.cost }) whole.is in
    let text = subst (λ schedule. IfSome schedule (IsScheduleText is.verified.is.is.version (has_price is.certificate.a is.certificate.b) is.certificate.periods is.certificate.thermal is.certificate.renewable))
    whole.is is.verified.is.is.conditions.schedule in
    let least = holds.shape.denominator.0 in
    let most = whole.whole in
    let own : MayHaveUplifts is.verified.instance printed table = record {
      lawful = is.verified.read.lawful;
      shape = holds.shape;
      sized = sized_text is.verified.is.is.version (has_price is.certificate.a is.certificate.b) is.certificate.periods is.certificate.thermal is.certificate.renewable
          (record { printed = printed; cost = whole.cost }) text;
      whole = omega (arith, least, most);
      obeys = holds.obeys;
      prices = lawful_of is.verified.instance is.certificate.tables number table is.verified.holds.tables prices.is;
    } in
    subst (λ instance. MayHaveUplifts instance printed table) is.instance own

-- ---- faults
-- a fault at which `check` would have ended
pub stopped_uplift : (asked : Uplift) (before after : Outside) (fault : Fault) → IsCheckStopped asked.check before after fault
    → IsUpliftFailure asked before after fault None
stopped_uplift asked before after (Write true) stopped = grind (arith, stopped)
stopped_uplift asked before after (NoUplift refusal) stopped = grind (arith, refusal, stopped)
stopped_uplift asked before after _ stopped = stopped

-- memory was refused once the certificate was checked
out_of_memory : (asked : Check) (f h : Slot → SlotState) (out err_old err_new : SinkState) (checked : Checked) → IsChecked asked f h checked
    → IsCheckStopped asked (outside_of f out err_old) (outside_of h out err_new) Memory
out_of_memory asked f h out err_old err_new checked is = grind (arith, is)

-- what was read has no uplifts, and so the certificate has none
pub without_uplifts : (asked : Uplift) (f h : Slot → SlotState) (out err_old err_new : SinkState) (checked : Checked) (fault : Fault)
    → IsChecked asked.check f h checked → IsUnpicked checked.cert asked.table fault
    → IsUpliftFailure asked (outside_of f out err_old) (outside_of h out err_new) fault None
without_uplifts asked f h out err_old err_new checked (NoUplift refusal) is unpicked = grind (arith, refusal, is, unpicked)
without_uplifts asked f h out err_old err_new checked Memory is unpicked = out_of_memory asked.check f h out err_old err_new checked is
without_uplifts asked f h out err_old err_new checked _ is unpicked = absurd unpicked

-- ---- the uplifts
abbrev has_uplifts : (asked : Uplift) (f h : Slot → SlotState) (checked : Checked) (uplifted : Uplifted) → IsChecked asked.check f h checked
    → IsUplifted checked asked.table uplifted → HasUplifts asked f
has_uplifts asked f h checked uplifted is own = record {
  certificate = is.certificate;
  verified = is.verified;
  printed = own.printed;
  schedule = schedule_of is.certificate checked.cert own.printed is.listed own.picked.schedule;
  table = uplifted.table;
  prices = prices_of is.certificate checked.cert asked.table uplifted.table is.listed own.picked.prices;
  uplifts = own.uplifts;
  are = subst (λ instance. AreUplifts instance own.printed uplifted.table own.uplifts) (sym is.instance) own.are;
}

-- what holds of the report for what was read, holds of that for what stands in the files
of_uplifts : (P : List ℕ → Type 0) (asked : Uplift) (f h : Slot → SlotState) (checked : Checked) (uplifted : Uplifted)
    (is : IsChecked asked.check f h checked) (own : IsUplifted checked asked.table uplifted)
    → P (uplift_report checked.instance uplifted.table uplifted.numbers) → P (text_of_uplifts is.verified.instance uplifted.table own.uplifts)
of_uplifts P asked f h checked uplifted is own p = grind (arith, p)

-- the report is told, or can't be
pub uplifts_told : (asked : Uplift) (f h : Slot → SlotState) (out new err_old err_new : SinkState) (checked : Checked) (uplifted : Uplifted)
    → IsChecked asked.check f h checked → IsUplifted checked asked.table uplifted
    → IsTold (uplift_report checked.instance uplifted.table uplifted.numbers) out new
    → AreUpliftsTold asked (outside_of f out err_old) (outside_of h new err_new)
uplifts_told asked f h out new err_old err_new checked uplifted is own told = record {
  has = has_uplifts asked f h checked uplifted is own;
  told = of_uplifts (λ text. IsTold text out new) asked f h checked uplifted is own told;
  calm = is.calm;
}

pub uplifts_untold : (asked : Uplift) (f h : Slot → SlotState) (out new err_old err_new : SinkState) (checked : Checked) (uplifted : Uplifted)
    → IsChecked asked.check f h checked → IsUplifted checked asked.table uplifted
    → FailsToTell (uplift_report checked.instance uplifted.table uplifted.numbers) out new
    → AreUpliftsUntold asked (outside_of f out err_old) (outside_of h new err_new)
uplifts_untold asked f h out new err_old err_new checked uplifted is own failed = record {
  has = has_uplifts asked f h checked uplifted is own;
  report = of_uplifts (λ text. FailsToTell text out new) asked f h checked uplifted is own failed;
}

-- ---- the table of a number
pub named : (tables : List Table) (number : ℕ) (table : Table) → 0 < number → number ≤ length tables → ((d : Table) → table ≡ get_or tables (number - 1) d)
    → Some table ≡ table_of tables number
named tables zero table some within is = absurd (omega arith)
named tables (suc i) table some within is =
    ap Some (is table ∙ ap (λ n. get_or tables n table) (omega arith)) ∙ sym (slice_get-get_or tables i table within)
