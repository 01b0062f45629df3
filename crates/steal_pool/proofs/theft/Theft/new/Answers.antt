use Rattle.steal_pool.proofs.Steps.{admits}
use Rattle.steal_pool.proofs.theft.Theft.new.Goals as goal

pub pass-pass-requires : goal.pass-pass-requires
pass-pass-requires c = admits
