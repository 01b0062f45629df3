use Rattle.outside.specs.declared.slot.Slot.TheVariants.{CertOut}
use Rattle.format_tests.proofs.slots.is_saved.Goals as goal

pub save-requires : goal.save-requires
save-requires c = c.system_files-files.ensures.unopened CertOut
