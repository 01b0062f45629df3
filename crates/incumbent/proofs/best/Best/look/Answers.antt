use Rattle.std.proofs.Common.{rules}
use Rattle.incumbent.proofs.Steps.{looks}
use Rattle.incumbent.proofs.best.Best.look.Goals as goal

pub load-found-requires : goal.load-found-requires
load-found-requires c = (search rules, search rules, looks _ _ _ _ c.pass.invariant.parts)
