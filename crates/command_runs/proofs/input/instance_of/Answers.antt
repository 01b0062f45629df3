-- What was given, and prices that are too high for it.
use Rattle.std.proofs.Common.{arith}
use Rattle.std.proofs.lemmas.Result.{IfOk-weaker}
use Rattle.command_runs.proofs.Prices.{only_priced}
use Rattle.command_runs.proofs.input.instance_of.Goals as goal

pub returns-in_err-given-clause-refused : goal.returns-in_err-given-clause-refused
returns-in_err-given-clause-refused c = grind (arith, c)

pub returns-clause-read : goal.returns-clause-read
returns-clause-read c = grind (arith, c)

pub returns-clause-only : goal.returns-clause-only
returns-clause-only c =
    let given = c.in_ok-given.given in
    IfOk-weaker c.priced.result _ _
    (λ r is i count stand. only_priced c.args.options given.0 r.0 stand.given i is.0 stand.priced
    (c.in_ok-given.ensures.only stand.given (stand.stand.0, stand.stand.1, stand.stand.2)))
    c.priced.ensures.priced

pub returns-clause-refused : goal.returns-clause-refused
returns-clause-refused c = grind (arith, c)
