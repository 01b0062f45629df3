-- The columns before the low end are before c, and those from the high end on aren't.
use Rattle.std.proofs.Common.{ℕ, ◌-◌, ◌<◌, ◌≤◌, length}
use Rattle.pivot_run.specs.inside.Entries.{column}
use Rattle.pivot_run.proofs.entries.Entries.before.Given as goal

abbrev pub invariant-loop-low : goal.invariant-loop-low
invariant-loop-low l = (l.low ≤ l.high) × (l.high ≤ length l.self.columns.items) × ((i : ℕ) → i < l.low → column l.self.columns.items i < l.c)
    × ((i : ℕ) → l.high ≤ i → i < length l.self.columns.items → l.c ≤ column l.self.columns.items i)

abbrev pub decreases-loop-low : goal.decreases-loop-low
decreases-loop-low l = l.high - l.low
