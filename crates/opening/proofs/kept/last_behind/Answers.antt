-- A path that goes on by one decision.
use Rattle.std.proofs.Common.{arith}
use Rattle.opening.proofs.Paths.{one_more}
use Rattle.opening.proofs.kept.last_behind.Goals as goal

pub returns : goal.returns
returns c =
    one_more c.args.path.now c.args.parent.now _ c.if-path-parent.false (λ k d within. c.loop-i.invariant k d (omega arith))
