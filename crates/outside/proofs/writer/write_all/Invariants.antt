use Rattle.std.proofs.Common.{length, ◌-◌, ◌≤◌, take}
use Rattle.outside.specs.Prelude.{WriterWrites}
use Rattle.outside.proofs.writer.write_all.Given as goal

abbrev pub invariant-loop-done : goal.invariant-loop-done
invariant-loop-done g l = let state = g.W.Writer.state in record {
  within : l.done ≤ length l.piece;
  written : WriterWrites (take l.done l.piece) (state l.initial.writer) (state l.writer);
  same : g.W.Writer.same_else l.initial.writer l.writer;
}

abbrev pub decreases-loop-done : goal.decreases-loop-done
decreases-loop-done g l = length l.piece - l.done
