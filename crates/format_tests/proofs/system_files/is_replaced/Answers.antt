use Rattle.outside.specs.declared.slot.Slot.TheVariants.{CertOut}
use Rattle.format_tests.proofs.system_files.is_replaced.Goals as goal

pub begin-requires : goal.begin-requires
begin-requires c = c.system_files-first.ensures.unopened CertOut
