-- The rules before have their multipliers.
use Rattle.std.proofs.Common.{ℕ, ◌<◌}
use Rattle.pivot_run.specs.Prelude.{IsNarrow, row_at}
use Rattle.dispatch_prices.specs.ReadOff.{AreMultipliers, RuleForms}
use Rattle.dispatch_prices.specs.Readings.{ArePlaces, rules_at}
use Rattle.dispatch_prices.proofs.multipliers.FinalTableau.multipliers.Given as goal

abbrev pub invariant-loop-i : goal.invariant-loop-i
invariant-loop-i l = record {
  times : AreMultipliers (rules_at l.self) l.self.limits.now (row_at l.self.table.now.rows l.o) l.i l.times.items;
  narrow : (k : ℕ) → k < l.i → IsNarrow (RuleForms (rules_at l.self) (row_at l.self.table.now.rows l.o) k);
  places : ArePlaces (rules_at l.self) l.i l.places;
}
