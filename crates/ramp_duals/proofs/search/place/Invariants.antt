-- The rows before `low` stand before the cell, and those from `high` on don't.
use Rattle.std.proofs.Common.{ℕ, ◌-◌, ◌<◌, ◌≤◌, length}
use Rattle.ramp_duals.specs.RampRows.{IsBefore, row_in}
use Rattle.ramp_duals.proofs.search.place.Given as goal

abbrev pub invariant-loop-low : goal.invariant-loop-low
invariant-loop-low l =
    (l.low ≤ l.high) × (l.high ≤ length l.rows)
    × ((i : ℕ) → i < l.low → IsBefore (row_in l.rows i) l.g l.t)
    × ((i : ℕ) → l.high ≤ i → i < length l.rows → ¬ IsBefore (row_in l.rows i) l.g l.t)

abbrev pub decreases-loop-low : goal.decreases-loop-low
decreases-loop-low l = l.high - l.low
