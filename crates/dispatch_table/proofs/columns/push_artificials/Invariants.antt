-- The columns so far.
use Rattle.std.proofs.Common.{◌≡◌, ◌++◌, map}
use Rattle.dispatch_program.specs.Prelude.{Artificial, has_artificial, picked}
use Rattle.dispatch_table.specs.Numbers.{column_of, program_of}
use Rattle.dispatch_table.proofs.columns.push_artificials.Given as goal

abbrev pub invariant-loop-i : goal.invariant-loop-i
invariant-loop-i l = map column_of l.columns.items ≡ map column_of l.initial.columns.items ++ picked (has_artificial (program_of l.numbers)) Artificial l.i
