-- The run of these patterns meets a limit.
use Rattle.std.proofs.Common.{subst}
use Rattle.pivot_dispatch.specs.Answers.{IsAnswer}
use Rattle.decided_nodes.proofs.decided.dispatched.Goals as goal

pub returns-in-Wide : goal.returns-in-Wide
returns-in-Wide c = λ node are.
    record {
      patterns = c.args.patterns.now;
      are = are;
      what = c.in-Wide.what;
      size = c.in-Wide.size;
      other = c.in-Wide.other;
      pivots = c.in-Wide.pivots;
      answer = subst (IsAnswer c.args.instance.now c.args.patterns.now) c.in-Wide.is c.in_ok-schedule.ensures;
    }
