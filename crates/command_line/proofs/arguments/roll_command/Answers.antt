-- Each argument adds its rule, and none is global.
use Rattle.std.proofs.Common.{ap}
use Rattle.std.proofs.lemmas.Result.{IfOk-weaker}
use Rattle.clap.specs.Words.{App}
use Rattle.command_line.proofs.arguments.roll_command.Goals as goal

pub returns-clause-shape : goal.returns-clause-shape
returns-clause-shape c =
    let first = c.with_arg-command.ensures.app _ _ c.place.ensures.rule c.new.ensures.app in
    let second = c.with_arg-command-2.ensures.app _ _ c.hours_option.ensures.rule first in
    let third = c.with_arg-command-3.ensures.app _ _ c.hours_option-2.ensures.rule second in
    let fourth = c.with_search_options-command.ensures.app _ third in
    IfOk-weaker c.with_prices.result _ _ (λ command is. ap (λ (a : App). a.top) is) (c.with_prices.ensures.app _ fourth)

pub returns-clause-local : goal.returns-clause-local
returns-clause-local c =
    c.with_prices.ensures.local (c.with_search_options-command.ensures.local (c.with_arg-command-3.ensures.local (c.with_arg-command-2.ensures.local
    (c.with_arg-command.ensures.local c.new.ensures.local))))
