-- The rules so far, and how large they are together.
use Rattle.std.proofs.Common.{◌≡◌, ◌*◌, ◌^◌, ◌≤◌, if◌then◌else◌, pos, unsigned_abs}
use Rattle.uc_model.specs.Prelude.{sum_below}
use Rattle.dispatch_program.specs.Prelude.{has_artificial, rule_number}
use Rattle.dispatch_table.specs.Numbers.{column_of, program_of}
use Rattle.dispatch_table.proofs.program.Numbers.rules_off.Given as goal

abbrev pub invariant-loop-i : goal.invariant-loop-i
invariant-loop-i l = record {
  value : l.total ≡ sum_below l.i (λ i. if has_artificial (program_of l.self) i then rule_number (program_of l.self) i (column_of l.column) else pos 0);
  size : unsigned_abs l.total ≤ l.i * 2 ^ 63;
}
