use Rattle.std.proofs.Common.{◌∙◌, ap}
use Rattle.outside.specs.declared.slot.Slot.TheVariants.{Instance, CertOut}
use Rattle.outside.specs.Prelude.{SlotState}
use Rattle.format_tests.proofs.system_files.is_refused.Goals as goal

pub slurp-read-requires : goal.slurp-read-requires
slurp-read-requires c = c.system_files-files.ensures.unopened Instance

pub open_slot-opened-requires : goal.open_slot-opened-requires
open_slot-opened-requires c = ap (λ (s : SlotState). s.stage) (c.slurp-read.ensures.others CertOut (λ e. cc)) ∙ c.system_files-files.ensures.unopened CertOut
