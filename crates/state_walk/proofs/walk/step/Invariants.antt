-- The entries before the place are of this period, and the others as they were.
use Rattle.std.proofs.Common.{◌≡◌, ℕ, ◌-◌, ◌<◌, ◌≤◌}
use Rattle.uc_model.specs.Prelude.{period_count}
use Rattle.state_walk.specs.inside.WalkTable.{entry, entry_at}
use Rattle.state_walk.proofs.walk.step.Given as goal

abbrev pub invariant-loop-since : goal.invariant-loop-since
invariant-loop-since l =
    ((k : ℕ) → k < l.since → entry_at l.values k ≡ entry l.terms l.unit l.fix (period_count l.terms - l.t) l.t k)
    × ((k : ℕ) → l.since ≤ k → entry_at l.values k ≡ entry_at l.initial.values k)
