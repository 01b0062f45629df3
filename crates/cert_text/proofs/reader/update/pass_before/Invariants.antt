-- The rows passed so far come before the row; the others rise.
use Rattle.std.proofs.Common.{◌≡◌, ◌++◌, length}
use Rattle.dual_model.specs.Prelude.{AreRising}
use Rattle.cert_text.specs.inside.Drafts.{LieBefore}
use Rattle.cert_text.proofs.reader.update.pass_before.Given as goal

abbrev pub invariant-loop-first : goal.invariant-loop-first
invariant-loop-first l = record {
  same : l.done.items ++ l.rest ≡ l.fn.done.items ++ l.left;
  before : LieBefore l.done.items l.row;
  rising : AreRising l.rest;
}

abbrev pub decreases-loop-first : goal.decreases-loop-first
decreases-loop-first l = length l.rest
