-- Each argument adds its rule.
use Rattle.std.proofs.Common.{ap}
use Rattle.std.proofs.lemmas.Result.{IfOk-weaker}
use Rattle.clap.specs.Words.{App}
use Rattle.command_line.proofs.arguments.upgrade_command.Goals as goal

pub returns-clause-shape : goal.returns-clause-shape
returns-clause-shape c =
    let first = c.with_arg-command.ensures.app _ _ c.place.ensures.rule c.new.ensures.app in
    IfOk-weaker c.with_arg.result _ _ (λ command is. ap (λ (a : App). a.top) is)
    (c.with_arg.ensures.app _ _ c.needed_option.ensures.rule first)
