-- The rows so far are equal.
use Rattle.std.proofs.Common.{◌≡◌, ℕ, ◌<◌, get_or}
use Rattle.dual_model.specs.declared.table.RampRow.{RampRow}
use Rattle.search_machine.proofs.tables.are_same_rows.Given as goal

abbrev pub invariant-loop-i : goal.invariant-loop-i
invariant-loop-i l = (k : ℕ) (d : RampRow) → k < l.i → get_or l.a k d ≡ get_or l.b k d
