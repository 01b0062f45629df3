-- The multipliers of period t are known, and the rows before it are written.
use Rattle.std.proofs.Common.{◌≡◌, ℕ, ◌<◌, length}
use Rattle.dual_model.specs.Prelude.{row_at}
use Rattle.ramp_duals.specs.RampRows.{AreOf, IsRowOf}
use Rattle.ramp_duals.proofs.prices.fill.Given as goal

abbrev pub invariant-loop-t : goal.invariant-loop-t
invariant-loop-t l =
    AreOf l.ramps l.g l.t l.now × (length l.rows ≡ length l.table.pi)
    × ((k : ℕ) → k < l.t → IsRowOf l.table l.g k (row_at l.rows k))
