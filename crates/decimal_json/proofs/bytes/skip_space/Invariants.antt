use Rattle.std.proofs.Common.{◌≡◌, ℕ, ◌≤◌, ◌-◌, List, length}
use Rattle.decimal_json.specs.Value.{Frame}
use Rattle.decimal_json.specs.inside.Scan.{Spot, scan, MaySpace}
use Rattle.decimal_json.proofs.bytes.skip_space.Given as goal

pub record Skips (bytes : List ℕ) (start at : ℕ) : Type 0 where
  pub forward : start ≤ at
  pub within : at ≤ length bytes
  pub same : (outer : List Frame) (spot : Spot) → MaySpace spot → scan bytes start outer spot ≡ scan bytes at outer spot

abbrev pub invariant-loop-at : goal.invariant-loop-at
invariant-loop-at l = Skips l.bytes l.initial.at l.at

abbrev pub decreases-loop-at : goal.decreases-loop-at
decreases-loop-at l = length l.bytes - l.at
