-- The columns so far.
use Rattle.std.proofs.Common.{◌≡◌, ◌++◌, map}
use Rattle.dispatch_program.specs.Prelude.{Unknown, all, picked}
use Rattle.dispatch_table.specs.Numbers.{column_of}
use Rattle.dispatch_table.proofs.columns.push_unknowns.Given as goal

abbrev pub invariant-loop-c : goal.invariant-loop-c
invariant-loop-c l = map column_of l.columns.items ≡ map column_of l.initial.columns.items ++ picked all Unknown l.c
