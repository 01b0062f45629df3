-- The entries before the place are those of the end.
use Rattle.std.proofs.Common.{◌≡◌, ℕ, ◌<◌, pos, Some}
use Rattle.state_walk.specs.inside.ExactTable.{cost_at}
use Rattle.state_walk.specs.inside.WalkTable.{entry_at}
use Rattle.state_walk.proofs.exact.end.Given as goal

abbrev pub invariant-loop-since : goal.invariant-loop-since
invariant-loop-since l = (k : ℕ) → k < l.since → entry_at l.values k ≡ record { on = cost_at l.runs k; off = Some (pos 0) }
