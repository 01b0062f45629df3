-- Each argument adds its rule.
use Rattle.std.proofs.Common.{ap}
use Rattle.std.proofs.lemmas.Result.{IfOk-weaker}
use Rattle.clap.specs.Words.{App}
use Rattle.command_line.proofs.arguments.check_command.Goals as goal

pub returns-clause-shape : goal.returns-clause-shape
returns-clause-shape c =
    let first = c.with_arg-command.ensures.app _ _ c.place.ensures.rule c.new.ensures.app in
    let second = c.with_arg-command-2.ensures.app _ _ c.place-2.ensures.rule first in
    IfOk-weaker c.with_prices.result _ _ (λ command is. ap (λ (a : App). a.top) is) (c.with_prices.ensures.app _ second)
