-- The sum over the window is the difference of two counts.
use Rattle.std.proofs.Common.{ap, ◌∙◌, arith, nat_le}
use Rattle.schedule_check.proofs.Counting.{keeps}
use Rattle.schedule_check.proofs.minimum_times.keeps_minimum.Goals as goal

pub returns-else-t-window : goal.returns-else-t-window
returns-else-t-window c = λ last test after counts before same.
    ap (λ n. nat_le c.within.result n) c.from.ensures
    ∙ keeps c.args.window c.args.t c.within.result c.args.state test after (omega arith) same
    (c.within.ensures last test counts (omega arith) (omega arith))
