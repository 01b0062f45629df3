use Rattle.std.proofs.Common.{◌≡◌, ◌≤◌, ◌+◌, List, drop, length}
use Rattle.decimal_json.specs.Value.{Value, Frame}
use Rattle.decimal_json.specs.inside.Scan.{awaited, scan}
use Rattle.decimal_json.proofs.value.literal.Given as goal

abbrev pub invariant-loop-letter : goal.invariant-loop-letter
invariant-loop-letter l = (l.initial.at + l.letter-index ≡ l.at) × (l.at ≤ length l.bytes)
    × ((outer : List Frame) (v : Value) → scan l.bytes l.initial.at outer (awaited v l.letters) ≡ scan l.bytes l.at outer (awaited v (drop l.letter-index l.letters)))
