-- The rules before that are no equality.
use Rattle.std.proofs.Common.{◌≡◌, ◌≤◌}
use Rattle.dispatch_program.specs.Prelude.{counted, is_limit}
use Rattle.dispatch_prices.specs.Readings.{rules_at}
use Rattle.dispatch_prices.proofs.multipliers.FinalTableau.slacks.Given as goal

abbrev pub invariant-loop-i : goal.invariant-loop-i
invariant-loop-i l = record {
  count : l.count ≡ counted (is_limit (rules_at l.self)) l.i;
  few : l.count ≤ l.i;
}
