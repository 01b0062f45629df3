-- The gap is no shorter than any lag.
use Rattle.std.proofs.Common.{◌<◌, ◌≤◌, ℕ, subst, arith, length}
use Rattle.unit_path.specs.inside.StartCosts.{row_of}
use Rattle.unit_path.proofs.Gaps.{sigma-cold_since}
use Rattle.unit_path.proofs.start_table.first_cold.Goals as goal

pub returns-else-since-eq0-clause-cold : goal.returns-else-since-eq0-clause-cold
returns-else-since-eq0-clause-cold c = λ t h.
    sigma-cold_since c.args.unit.now c.args.since t c.longest_lag.result (omega (arith, c.if-since-eq0.false))
    (subst (λ rows. (s : ℕ) → s < length rows → (row_of rows s).lag ≤ c.longest_lag.result) c.as_slice.ensures c.longest_lag.ensures.longest) h
