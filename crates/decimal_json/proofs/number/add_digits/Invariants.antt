use Rattle.std.proofs.Common.{◌-◌, ◌≤◌, length}
use Rattle.decimal_json.specs.inside.Scan.{AddsDigits}
use Rattle.decimal_json.proofs.number.add_digits.Given as goal

abbrev pub invariant-loop-at : goal.invariant-loop-at
invariant-loop-at l = (l.at ≤ length l.bytes) × AddsDigits l.bytes l.initial.at l.at l.fn.digits.items l.digits.items

abbrev pub decreases-loop-at : goal.decreases-loop-at
decreases-loop-at l = length l.bytes - l.at
