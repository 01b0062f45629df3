-- The units before have their rows, and so have this unit's periods before.
use Rattle.std.proofs.Common.{◌≡◌, ◌++◌}
use Rattle.dispatch_prices.specs.PricedLimits.{up_price, down_price}
use Rattle.dispatch_prices.specs.ReadOff.{all_rows, rows_in}
use Rattle.dispatch_prices.proofs.table.ramp_rows.Given as goal

abbrev pub invariant-loop-g : goal.invariant-loop-g
invariant-loop-g l = l.rows.items ≡ all_rows (up_price l.priced) (down_price l.priced) l.g l.periods

abbrev pub invariant-loop-t : goal.invariant-loop-t
invariant-loop-t l = l.rows.items ≡ all_rows (up_price l.priced) (down_price l.priced) l.g l.periods ++ rows_in (up_price l.priced) (down_price l.priced) l.t l.g
