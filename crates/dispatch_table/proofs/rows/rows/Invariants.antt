-- The rows of the rules so far.
use Rattle.std.proofs.Common.{◌≡◌, map}
use Rattle.dispatch_program.specs.Prelude.{RuleLine, all, columns_of, line_number, picked}
use Rattle.dispatch_table.specs.Numbers.{program_of}
use Rattle.dispatch_table.proofs.rows.rows.Given as goal

abbrev pub invariant-loop-i : goal.invariant-loop-i
invariant-loop-i l = l.rows.items ≡ map (λ line. map (line_number (program_of l.numbers) line) (columns_of (program_of l.numbers))) (picked all RuleLine l.i)
