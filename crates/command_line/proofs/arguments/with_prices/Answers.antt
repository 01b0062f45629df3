-- Each argument adds its rule.
use Rattle.command_line.proofs.arguments.with_prices.Goals as goal

pub returns-clause-app : goal.returns-clause-app
returns-clause-app c app is = c.with_arg.ensures.app _ _ c.price_option-2.ensures.rule (c.with_arg-command.ensures.app _ _ c.price_option.ensures.rule is)
