-- That a certificate that holds is accepted: how each run of `check` on it ends in which no call fails. This project's own.
use Rattle.std.specs.Prelude.{◌≡◌, ℕ, ◌*◌, ◌≤◌, ◌⊎◌, List, Some, All, length}
use Rattle.dual_model.specs.declared.table.Table.{Table}
use Rattle.outside.specs.Prelude.{HasRisen}
use Rattle.outside.specs.declared.slot.Slot.TheVariants as slot
use Rattle.cert_text.specs.CertificateText.{Listing}
use Rattle.command_line.specs.Command.{Check}
use Rattle.command_runs.specs.Prelude.{Outside}
use Rattle.command_runs.specs.declared.ending.End.{End}
use Rattle.uc_check.specs.Checking.{IsCheckRun}

-- no call on either file failed, nor one on the output
pub record IsUndisturbed (before after : Outside) : Type 0 where
  pub instance : ¬ HasRisen (before.files slot.Instance).faults (after.files slot.Instance).faults
  pub certificate : ¬ HasRisen (before.files slot.CertIn).faults (after.files slot.CertIn).faults
  pub out : ¬ HasRisen before.out.faults after.out.faults

-- each such run of `check` on these bytes of an instance, at these prices, and on this text of a certificate ends with 0, or with 8 where
-- memory was refused
abbrev pub IsAcceptedFor : ℕ → ℕ → List ℕ → List ℕ → Type 0
IsAcceptedFor shed spill_reserve file text =
    (asked : Check) (before after : Outside) (end : End) → asked.shed ≡ shed → asked.spill_reserve ≡ spill_reserve
    → (before.files slot.Instance).left ≡ Some file → (before.files slot.CertIn).left ≡ Some text → IsUndisturbed before after
    → IsCheckRun asked before after end → (end.code ≡ 0) ⊎ (end.code ≡ 8)

-- ---- how much a certificate has
-- a row for each unit and period
abbrev pub most_rows : ℕ
most_rows = 4096 * 168

-- so many tables, of so many rows each, and nodes that its text is read: as many as a search of a million claims leaves
pub record IsLittle (c : Listing) : Type 0 where
  pub tables : length c.tables ≤ 1000001
  pub rows : All (λ (table : Table). length table.ramps ≤ most_rows) c.tables
  pub nodes : length c.nodes ≤ 2000001
