-- The slot is read as `slurp` says.
use Rattle.command_runs.proofs.OnlyRead.{only_read}
use Rattle.command_runs.proofs.slot_bytes.slot_bytes.Goals as goal

pub returns-clause-only_read : goal.returns-clause-only_read
returns-clause-only_read g c =
    only_read (λ bytes. bytes.items) c.args.most c.args.name.now c.slurp.result (g.F.Files.state c.args.files.now c.args.slot)
    (g.F.Files.state c.slurp.new.files c.args.slot) c.requires c.slurp.ensures.ok c.slurp.ensures.too_long c.slurp.ensures.no_memory
    c.slurp.ensures.failed
