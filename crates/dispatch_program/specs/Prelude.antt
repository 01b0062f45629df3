-- The words that clauses, specifications and proofs cite, passed on from one place. Declares nothing.
pub use Rattle.dispatch_program.specs.Programs.{Artificial, Column, CostLine, CostValue, HasColumn, Line, Program, RightSide, RuleLine, Slack, SumLine, SumValue, Unknown, all, artificials, basic_column, bump, columns_of, cost_number, counted, free_columns, has_artificial, is_limit, is_negated, line_number, lines_of, multiplier, one_at, own_column, picked, place, rule_number, rules_off, sign, slacks, start_rows, start_table, sum_number}
pub use Rattle.dispatch_program.specs.LastTables.{AreShares, BasesGiveValues, EndsAreLast, EnteringGivesRays, HasNoArtificial, HasZeros, IsRayOf, IsReached, IsStart, NoSumIsLeft, NoSumNoArtificial, NoneEnters, SharesExist, StartsAreTables, SumsAreLow, SumsGoOn, basis_values}
pub use Rattle.dispatch_program.specs.LastRows.{IsLastRow}
pub use Rattle.dispatch_program.specs.ProgramRuns.{IsCheapest, IsStuck, RunsEnd, RunsReachTables, SumIsLeft, state_at}
pub use Rattle.dispatch_program.specs.ProgramValues.{AreValues, IsRay, SumIsArtificial, ValuesObey, artificial_sum}
