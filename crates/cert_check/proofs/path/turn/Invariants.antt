-- What was left had nothing to come, and the path is still one.
use Rattle.std.proofs.Common.{◌≡◌, [], vec_len}
use Rattle.cert_check.specs.inside.Walks.{Instance, IsPath, pending}
use Rattle.cert_check.proofs.path.turn.Given as goal

abbrev pub invariant-loop-last : goal.invariant-loop-last
invariant-loop-last l = record {
  pending : pending [] l.path.items ≡ pending [] l.initial.path.items;
  path : (instance : Instance) → IsPath instance l.initial.path.items → IsPath instance l.path.items;
}

abbrev pub decreases-loop-last : goal.decreases-loop-last
decreases-loop-last l = vec_len l.path
