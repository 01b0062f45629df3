-- A run without an hour lets the output before fall to nothing; one with an hour begins in the first period.
use Rattle.std.proofs.Common.{◌≡◌, ℕ, Bool, true, false, lit<, ◌*◌, arith, sym, ap, ◌∙◌, ℤ, pos, Some, None, if◌then◌else◌}
use Rattle.uc_model.proofs.Common.{narrow}
use Rattle.unit_runs.specs.Runs.{entry_output}
use Rattle.unit_runs.specs.RunsToGo.{run_until}
use Rattle.state_walk.specs.inside.CostToEnd.{Table, Thermal, highest_end, is_between, lowest_end}
use Rattle.state_walk.specs.inside.Problems.{MAX_POWER}
use Rattle.state_walk.proofs.Mirror.{run-same}
use Rattle.state_walk.proofs.endings.earliest.Goals as goal

-- a run without an hour, by whether the output before may fall to nothing
no-hour : (periods : ℕ) (table : Table) (unit : Thermal) (t : ℕ) (output : ℤ) (falls : Bool) → 0 ≡ t → output ≡ entry_output unit 0
    → falls ≡ is_between (lowest_end periods unit 0) (highest_end periods unit 0) output
    → (if falls then Some (pos 0) else None) ≡ run_until periods table unit 0 t
no-hour periods table unit t output falls none own test =
    ap (λ b. if b then Some (pos 0) else None) (test ∙ ap (is_between (lowest_end periods unit 0) (highest_end periods unit 0)) own)
    ∙ run-same periods table unit 0 0
    ∙ ap (run_until periods table unit 0) none

pub returns-then-may_end : goal.returns-then-may_end
returns-then-may_end c =
    let p = c.args.problem.now in
    let own = narrow c.entry_output.result (2 * MAX_POWER) c.entry_output.ensures.size (lit< tt) ∙ c.entry_output.ensures.value in
    no-hour p.periods p.table.now p.unit.now c.args.t _ true (omega (arith, c.if-t-gt0.false)) own (sym c.if-may_end.true ∙ c.may_end.ensures)

pub returns-else-may_end : goal.returns-else-may_end
returns-else-may_end c =
    let p = c.args.problem.now in
    let own = narrow c.entry_output.result (2 * MAX_POWER) c.entry_output.ensures.size (lit< tt) ∙ c.entry_output.ensures.value in
    no-hour p.periods p.table.now p.unit.now c.args.t _ false (omega (arith, c.if-t-gt0.false)) own (sym c.if-may_end.false ∙ c.may_end.ensures)
