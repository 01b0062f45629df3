-- The columns before some column are combined, and those behind it are left.
use Rattle.std.proofs.Common.{ℕ, ◌+◌, ◌-◌, ◌≤◌, length}
use Rattle.pivot_run.specs.inside.Entries.{AreBelow, IsCombined, IsSplit, number_at}
use Rattle.pivot_run.proofs.combining.combine.Given as goal

abbrev pub invariant-columns : goal.invariant-columns
invariant-columns l = (c : ℕ) × IsSplit l.row.columns.items l.a c × IsSplit l.other.columns.items l.b c
    × IsCombined (number_at l.row.columns.items l.row.numbers.items) (number_at l.other.columns.items l.other.numbers.items) l.pivot l.factor
    l.made.columns.items l.made.numbers.items c
    × ((n : ℕ) → AreBelow l.row.columns.items n → AreBelow l.other.columns.items n → c ≤ n)

abbrev pub decreases-columns : goal.decreases-columns
decreases-columns l = (length l.row.columns.items - l.a) + (length l.other.columns.items - l.b)
