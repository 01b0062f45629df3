use Rattle.outside.proofs.Appending.{writes-more, fault-after, at_error}
use Rattle.outside.proofs.writer.write_all.Goals as goal
use Rattle.std.proofs.lemmas.List.{take_rest}
use Rattle.std.proofs.Common.{arith, ℕ, length-drop, length-take}

pub returns-in_err-done-clause-failed : goal.returns-in_err-done-clause-failed
returns-in_err-done-clause-failed g c = at_error c.from_residual.result (fault-after _ _ _ _ _ c.loop-done.invariant.written c.in_err-done.ensures.failed)

pub loop-done-preserved : goal.loop-done-preserved
loop-done-preserved g c = record {
  within = omega (arith, length-drop {A = ℕ}, length-take {A = ℕ}, c.in_ok-done.ensures.bound);
  written = writes-more _ _ _ _ _ _ _ (take_rest c.args.piece.now c.loop-done.done) c.loop-done.invariant.written c.in_ok-done.ensures.ok;
  same = g.met.W.Writer.same_else_through _ _ _ c.loop-done.invariant.same c.in_ok-done.ensures.rest;
}
