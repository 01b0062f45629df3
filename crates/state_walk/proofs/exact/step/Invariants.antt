-- The entries before the place are of this period, and the others as they were.
use Rattle.std.proofs.Common.{◌≡◌, ℕ, ◌-◌, ◌<◌, ◌≤◌}
use Rattle.state_walk.specs.inside.ExactTable.{exact_entry}
use Rattle.state_walk.specs.inside.WalkTable.{entry_at}
use Rattle.state_walk.proofs.exact.step.Given as goal

abbrev pub invariant-loop-since : goal.invariant-loop-since
invariant-loop-since l =
    ((k : ℕ) → k < l.since → entry_at l.values k
    ≡ exact_entry l.problem.periods l.problem.table.now l.problem.unit.now l.problem.fix.now (l.problem.periods - l.t) l.t k)
    × ((k : ℕ) → l.since ≤ k → entry_at l.values k ≡ entry_at l.initial.values k)
