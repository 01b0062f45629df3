-- As many rows as turns, all lawful.
use Rattle.std.proofs.Common.{◌≡◌, All, length}
use Rattle.dual_model.specs.Prelude.{IsLawfulRow}
use Rattle.model_tests.proofs.drawn.prices.Given as goal

abbrev pub invariant-loop : goal.invariant-loop
invariant-loop l = record {
  count : length l.rows.items ≡ l.counter;
  lawful : All IsLawfulRow l.rows.items;
}
