use Rattle.std.proofs.Common.{◌-◌, ◌≤◌, length}
use Rattle.decimal_json.specs.inside.Scan.{AddsExponent}
use Rattle.decimal_json.proofs.number.exponent_digits.Given as goal

abbrev pub invariant-loop-at : goal.invariant-loop-at
invariant-loop-at l = (l.initial.at ≤ l.at) × (l.at ≤ length l.bytes) × AddsExponent l.bytes l.initial.at l.at l.fn.first l.written

abbrev pub decreases-loop-at : goal.decreases-loop-at
decreases-loop-at l = length l.bytes - l.at
