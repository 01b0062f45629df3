-- The basic columns of the rules so far, and the next slack and artificial columns.
use Rattle.std.proofs.Common.{◌≡◌, ◌+◌, ◌≤◌, length, map}
use Rattle.dispatch_program.specs.Prelude.{RuleLine, all, basic_column, counted, has_artificial, is_limit, picked, place, slacks}
use Rattle.dispatch_table.specs.Numbers.{program_of}
use Rattle.dispatch_table.proofs.basis.basis.Given as goal

abbrev pub invariant-loop-i : goal.invariant-loop-i
invariant-loop-i l = record {
  basis : l.basis.items ≡ map (λ line. place (program_of l.numbers) (basic_column (program_of l.numbers) line)) (picked all RuleLine l.i);
  slack : l.slack ≡ length l.numbers.amounts.items + counted (is_limit (program_of l.numbers)) l.i;
  slack_size : l.slack ≤ length l.numbers.amounts.items + l.i;
  artificial : l.artificial ≡ length l.numbers.amounts.items + (slacks (program_of l.numbers) + counted (has_artificial (program_of l.numbers)) l.i);
  artificial_size : l.artificial ≤ length l.numbers.amounts.items + (length l.numbers.limits.items + l.i);
}
