-- The slack columns of the rules so far.
use Rattle.std.proofs.Common.{◌≡◌, ◌≤◌}
use Rattle.dispatch_program.specs.Prelude.{counted, is_limit}
use Rattle.dispatch_table.specs.Numbers.{program_of}
use Rattle.dispatch_table.proofs.basis.slacks.Given as goal

abbrev pub invariant-loop-i : goal.invariant-loop-i
invariant-loop-i l = record {
  value : l.count ≡ counted (is_limit (program_of l.numbers)) l.i;
  size : l.count ≤ l.i;
}
