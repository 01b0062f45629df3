-- The numbers in the columns so far, and that each is small.
use Rattle.std.proofs.Common.{◌≡◌, ℕ, ◌^◌, ◌<◌, map, take, unsigned_abs}
use Rattle.pivot_run.specs.Prelude.{entry}
use Rattle.dispatch_program.specs.Prelude.{line_number}
use Rattle.dispatch_table.specs.Numbers.{column_of, line_of, program_of}
use Rattle.dispatch_table.specs.declared.column.Column.{Column}
use Rattle.dispatch_table.proofs.rows.line_numbers.Given as goal

abbrev pub invariant-loop-column : goal.invariant-loop-column
invariant-loop-column l = record {
  row : l.row.items ≡ map (λ (column : Column). line_number (program_of l.numbers) (line_of l.line) (column_of column)) (take l.column-index l.columns);
  small : (k : ℕ) → unsigned_abs (entry l.row.items k) < 2 ^ 127;
}
