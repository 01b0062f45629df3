-- By what each cell costs, and weak duality.
use Rattle.dispatch_prices.proofs.Worth.{prices_are_exact, dispatches_are_least}
use Rattle.dispatch_prices.proofs.laws.prices_are_exact.Goals as goal

pub returns-clause-exact : goal.returns-clause-exact
returns-clause-exact c = prices_are_exact

pub returns-clause-least : goal.returns-clause-least
returns-clause-least c = dispatches_are_least
