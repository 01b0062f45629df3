-- Rule by rule.
use Rattle.dispatch_prices.proofs.Obeying.{dispatches_obey}
use Rattle.dispatch_prices.proofs.laws.dispatches_obey.Goals as goal

pub returns : goal.returns
returns c = dispatches_obey
