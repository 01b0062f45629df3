-- The greatest slope of the units before the place.
use Rattle.opening_tables.specs.inside.Slopes.{IsGreatestOf}
use Rattle.opening_tables.proofs.marginal_prices.greatest_slope.Given as goal

abbrev pub invariant-loop-g : goal.invariant-loop-g
invariant-loop-g l = IsGreatestOf l.instance l.printed l.t l.g l.greatest
