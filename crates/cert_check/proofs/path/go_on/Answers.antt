-- A split is followed by its off-child, and a leaf by the next place.
use Rattle.std.proofs.Common.{arith}
use Rattle.std.proofs.lemmas.Result.{IfOk-weaker}
use Rattle.cert_check.proofs.Pending.{below}
use Rattle.cert_check.proofs.WalkedPaths.{path-more}
use Rattle.cert_check.proofs.path.go_on.Goals as goal

pub returns-in_ok-push-in-Split : goal.returns-in_ok-push-in-Split
returns-in_ok-push-in-Split c = grind (arith, below, path-more, c)

pub returns-in-Bound-clause-path : goal.returns-in-Bound-clause-path
returns-in-Bound-clause-path c = IfOk-weaker c.turn.result _ _ (λ going path. λ instance is may. path instance is) c.turn.ensures.path
