use Rattle.outside.specs.declared.slot.Slot.TheVariants.{CertIn}
use Rattle.format_tests.proofs.slots.read_file.Goals as goal

pub slurp-read-requires : goal.slurp-read-requires
slurp-read-requires c = c.system_files-files.ensures.unopened CertIn
