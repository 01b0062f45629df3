-- The words that clauses, specifications and proofs cite, passed on from one place. Declares nothing.
pub use Rattle.pivot_run.specs.Pivots.{AreAsLong, ClearingForms, IsClearedBut, IsNarrow, IsWide, PivotForms, pivot_row, pivoted, row_at}
pub use Rattle.pivot_run.specs.Rows.{IsLargest, IsSmall, cleared, combined, divides_each, divisor_of, eliminated, entry, reduced, total_size, upright}
pub use Rattle.pivot_run.specs.Solutions.{Solves, dot}
pub use Rattle.pivot_run.specs.Tables.{IsBasic, IsTable, LeavingForms, Table, WithRowForms, basic, entering, foremost, leaves_before, leaving, number, pivoted_table, right_side, with_row}
pub use Rattle.pivot_run.specs.Values.{at_column, values_of}
pub use Rattle.pivot_run.specs.Driven.{driven, first_driven, is_some_number, or_later}
pub use Rattle.pivot_run.specs.Stages.{EndsAfter, IsRun, MakesPlan, State, StepForms, StopsAt, StopsBy, advanced, after_sum, cost_target, drives, on_row, plan_of, rows_target, state_after, state_of, target}
pub use Rattle.pivot_run.specs.Runs.{Keeps, next}
pub use Rattle.pivot_run.specs.Halts.{IfMet}
