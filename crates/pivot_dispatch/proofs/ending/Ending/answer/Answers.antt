-- The row of the sum.
use Rattle.std.proofs.Common.{arith}
use Rattle.pivot_dispatch.proofs.Ended.{rows_are}
use Rattle.pivot_dispatch.proofs.ending.Ending.answer.Goals as goal

pub is_owing-requires : goal.is_owing-requires
is_owing-requires c =
    let ended = c.requires.ended in
    let rows = rows_are c.args.self.now ended.0 ended.1 in
    omega arith
