-- One run more, which begins an hour earlier.
use Rattle.std.proofs.Common.{◌≡◌, ℕ, suc, ◌+◌, ◌-◌, ◌<◌, ◌≤◌, true, ap, ◌∙◌, arith, List, ℤ, length, slice_set, get_or-set_same, get_or-set_other, Option}
use Rattle.std.proofs.lemmas.Bool.{cases_lt}
use Rattle.unit_runs.specs.CostThrough.{run_cost}
use Rattle.unit_runs.specs.Runs.{entry_output}
use Rattle.unit_runs.specs.RunsToGo.{run_until}
use Rattle.state_walk.specs.inside.CostToEnd.{cost_to_end}
use Rattle.state_walk.specs.inside.ExactTable.{cost_at}
use Rattle.state_walk.specs.inside.Problems.{Table, Thermal}
use Rattle.state_walk.proofs.Mirror.{run-same}
use Rattle.state_walk.proofs.endings.Endings.fill.Goals as goal

-- the run that begins in period k and has n + 1 hours
run-of : (periods : ℕ) (table : Table) (unit : Thermal) (k n t s : ℕ) (cost : Option ℤ) → suc k ≡ s → suc n ≡ t - k
    → cost ≡ cost_to_end periods table unit (suc n) k true (entry_output unit k) → cost ≡ run_until periods table unit s t
run-of periods table unit k n t s cost e d is =
    is ∙ run-same periods table unit k (suc n) ∙ ap (run_cost periods table unit k) d ∙ ap (λ z. run_until periods table unit z t) e

-- one cost more at the front
more : (periods : ℕ) (table : Table) (unit : Thermal) (t m : ℕ) (costs : List (Option ℤ)) (cost : Option ℤ) → m < length costs
    → cost ≡ run_until periods table unit m t → ((s : ℕ) → m < s → s ≤ t → cost_at costs s ≡ run_until periods table unit s t)
    → (s : ℕ) → m ≤ s → s ≤ t → cost_at (slice_set costs m cost) s ≡ run_until periods table unit s t
more periods table unit t m costs cost l is known s low high =
    grind (arith, slice_set, get_or-set_same, get_or-set_other, cases_lt, l, is, known, low, high)

pub loop-n-init : goal.loop-n-init
loop-n-init c = grind (arith, c.args.problem.now, c.args.t, c.end.new.self, c.end.ensures, c.requires.room.cut, c)

pub begin_before-requires-clause-rest : goal.begin_before-requires-clause-rest
begin_before-requires-clause-rest c =
    grind (arith, c.args.problem.now, c.loop-n-test.true, c.args.t, c.loop-n.n, c.loop-n.self.rest, c.loop-n.invariant.rest, c)

pub loop-n-preserved : goal.loop-n-preserved
loop-n-preserved c =
    let p = c.args.problem.now in
    let t = c.args.t in
    let n = c.loop-n.n in
    let before = c.loop-n-test.true in
    let count = c.loop-n.auto.costs in
    let room = c.requires.count in
    let next : suc n ≡ n + 1 = omega arith in
    let left : t - n - 1 ≡ t - (n + 1) = omega arith in
    let at : suc (t - n - 1) ≡ t - n = omega (arith, before) in
    let hours : suc n ≡ t - (t - n - 1) = omega (arith, before) in
    record {
      rest = grind (arith, p, t, n, c, next, left);
      cut = c.begin_before.ensures.room;
      runs = λ s low high.
          more p.periods p.table.now p.unit.now t (t - n) c.loop-n.costs c.begin_before.result (omega (arith, count, room))
          (run-of p.periods p.table.now p.unit.now (t - n - 1) n t (t - n) c.begin_before.result at hours c.begin_before.ensures.cost) c.loop-n.invariant.runs s
          (omega (arith, low, before)) high;
    }

pub earliest-requires-clause-later : goal.earliest-requires-clause-later
earliest-requires-clause-later c = grind (arith, c)

pub returns-clause-runs : goal.returns-clause-runs
returns-clause-runs c = grind (arith, more, c)
