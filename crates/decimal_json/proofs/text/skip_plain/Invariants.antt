use Rattle.std.proofs.Common.{◌-◌, ◌≤◌, length, slice_range}
use Rattle.decimal_json.specs.inside.Scan.{ReadsPlain}
use Rattle.decimal_json.proofs.text.skip_plain.Given as goal

abbrev pub invariant-loop-at : goal.invariant-loop-at
invariant-loop-at l = (l.initial.at ≤ l.at) × (l.at ≤ length l.bytes) × ReadsPlain l.bytes l.initial.at l.at (slice_range l.bytes l.initial.at l.at)

abbrev pub decreases-loop-at : goal.decreases-loop-at
decreases-loop-at l = length l.bytes - l.at
