-- The ray.
use Rattle.std.proofs.Common.{◌≡◌, subst, arith}
use Rattle.std.proofs.lemmas.Result.{IfOk-weaker}
use Rattle.pivot_run.specs.Prelude.{row_at}
use Rattle.dispatch_rules.specs.Prelude.{program}
use Rattle.dispatch_prices.specs.ReadOff.{HasSmallMultipliers}
use Rattle.dispatch_prices.specs.Readings.{IsUnfit}
use Rattle.pivot_dispatch.specs.Answers.{IsAnswer}
use Rattle.pivot_dispatch.specs.inside.Endings.{Tells}
use Rattle.pivot_dispatch.proofs.Ended.{end_is, rules_are, sum_left}
use Rattle.pivot_dispatch.proofs.Answering.{ray_is, unpriced_sum}
use Rattle.pivot_dispatch.proofs.ending.Ending.ray.Goals as goal

pub prices-requires-clause-end : goal.prices-requires-clause-end
prices-requires-clause-end c =
    let ended = c.requires.ended in
    (ended.0, (ended.1.of.instance_is, end_is c.args.self.now ended.0 ended.1 c.end.result c.end.ensures.table c.end.ensures.unknowns c.end.ensures.limits c.end.ensures.rights))

pub returns-in-Ok : goal.returns-in-Ok
returns-in-Ok c =
    let task = c.requires.ended.0 in
    let ended = c.requires.ended.1 in
    let is = end_is c.args.self.now task ended c.end.result c.end.ensures.table c.end.ensures.unknowns c.end.ensures.limits c.end.ensures.rights in
    let rules = rules_are c.args.self.now task ended in
    let row : c.len.result ≡ (program task).rules = omega arith in
    ray_is c.args.self.now task ended c.requires.lawful (row_at c.end.result.table.now.rows c.len.result) c.in-Ok.table
    (sum_left c.args.self.now task ended c.requires.allowed c.requires.lawful c.requires.left)
    (λ i. row_at (c.end.ensures.table i).rows (row i))
    (c.in-Ok.ensures.table task ended.of.instance_is is)
    (c.in-Ok.ensures.narrow task is)
    (subst (λ l. HasSmallMultipliers (program task) l (row_at c.end.result.table.now.rows c.len.result)) c.end.ensures.limits (c.in-Ok.ensures.within task is))

pub returns-in-Err : goal.returns-in-Err
returns-in-Err c =
    let task = c.requires.ended.0 in
    let ended = c.requires.ended.1 in
    let is = end_is c.args.self.now task ended c.end.result c.end.ensures.table c.end.ensures.unknowns c.end.ensures.limits c.end.ensures.rights in
    let rules = rules_are c.args.self.now task ended in
    let row : c.len.result ≡ (program task).rules = omega arith in
    IfOk-weaker c.unpriced.result (Tells c.in-Err.unfit c.args.self.now.pivots) (IsAnswer c.args.self.now.instance.now c.args.self.now.patterns.now)
    (λ pivot tells.
    unpriced_sum c.args.self.now task ended (row_at c.end.result.table.now.rows c.len.result) c.in-Err.unfit pivot
    (sum_left c.args.self.now task ended c.requires.allowed c.requires.lawful c.requires.left)
    (λ i. row_at (c.end.ensures.table i).rows (row i))
    (subst (λ l. IsUnfit (program task) l (row_at c.end.result.table.now.rows c.len.result) c.in-Err.unfit) c.end.ensures.limits (c.in-Err.ensures.unfit task is))
    tells)
    c.unpriced.ensures
