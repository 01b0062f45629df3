-- Each argument adds its rule.
use Rattle.command_line.proofs.arguments.with_search_options.Goals as goal

pub returns-clause-app : goal.returns-clause-app
returns-clause-app c app is =
    let first = c.with_arg-command.ensures.app _ _ c.units_option.ensures.rule is in
    let second = c.with_arg-command-2.ensures.app _ _ c.workers_option.ensures.rule first in
    let third = c.with_arg-command-3.ensures.app _ _ c.gap_option.ensures.rule second in
    c.with_arg.ensures.app _ _ c.switch.ensures.rule third
