-- One row more than turns, all small.
use Rattle.std.proofs.Common.{◌≡◌, ◌+◌, All, length}
use Rattle.model_tests.specs.SmallRows.{IsSmallRow}
use Rattle.model_tests.proofs.drawn.start_rows.Given as goal

abbrev pub invariant-loop : goal.invariant-loop
invariant-loop l = record {
  count : length l.rows.items ≡ l.counter + 1;
  small : All IsSmallRow l.rows.items;
}
