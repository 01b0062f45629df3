use Rattle.outside.specs.declared.slot.Slot.TheVariants.{CertOut}
use Rattle.format_tests.proofs.system_files.faults_at_folder.Goals as goal

pub begin-requires : goal.begin-requires
begin-requires c = c.system_files-files.ensures.unopened CertOut
