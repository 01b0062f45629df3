-- The ways of a unit by its runs cost little beside 128 bits.
use Rattle.std.proofs.Common.{◌≡◌, ℕ, zero, suc, ◌+◌, ◌-◌, ◌*◌, ◌^◌, ◌≤◌, Bool, true, false, not, refl, sym, subst, arith, ℤ, ◌*ℤ◌, unsigned_abs, Option, Some, None, if◌then◌else◌}
use Rattle.std.proofs.lemmas.Int.{ints}
use Rattle.std.proofs.lemmas.Bool.{cond_both}
use Rattle.uc_model.specs.Prelude.{sigma}
use Rattle.uc_model.specs.declared.limits.TheConstants.{MAX_COST}
use Rattle.uc_model.proofs.Common.{abs_mul, sigma-size}
use Rattle.dual_model.specs.Prelude.{IsWithin, MAX_COST_TO_GO, stop_since}
use Rattle.dual_model.proofs.CostSizes.{lesser_of-size, more_room, total_of-size}
use Rattle.hull_function.specs.Hours.{MAX_HOUR}
use Rattle.unit_runs.specs.Runs.{entry_output}
use Rattle.unit_runs.specs.RunsToGo.{Fix, run_from, run_until, runs_to_go, switch_cost}
use Rattle.unit_runs.proofs.Changes.{by_change}
use Rattle.state_walk.specs.inside.CostToEnd.{cost_to_end}
use Rattle.state_walk.specs.inside.Problems.{IsLawful, Steps, Table, Thermal}
use Rattle.state_walk.proofs.Mirror.{run-same}
use Rattle.state_walk.proofs.RestSizes.{rest-size}

within-of : (m : ℕ) (o : Option ℤ) → ((v : ℤ) → o ≡ Some v → unsigned_abs v ≤ m) → IsWithin m o
within-of m None f = tt
within-of m (Some v) f = f v refl

only_where : (b : Bool) (o : Option ℤ) (m : ℕ) → IsWithin m o → IsWithin m (if b then o else None)
only_where b o m h = cond_both b o None (λ x. IsWithin m x) (λ e. h) (λ e. tt)

module _ (periods : ℕ) (table : Table) (unit : Thermal) (hull : Steps) (lawful : IsLawful periods table unit hull) where
  run-size : (since t : ℕ) → run_from since ≤ t → t ≤ periods → IsWithin (MAX_HOUR * (t - run_from since)) (run_until periods table unit since t)
  run-size since t order within =
      let from = run_from since in
      subst (λ o. IsWithin (MAX_HOUR * (t - from)) o) (run-same periods table unit from (t - from))
      (within-of (MAX_HOUR * (t - from)) (cost_to_end periods table unit (t - from) from true (entry_output unit from))
      (λ v e. (rest-size periods table unit hull lawful (t - from) from true (omega (arith, order, within)) (entry_output unit from) v e).cost))

  start-size : (since t : ℕ) → unsigned_abs (table.k *ℤ sigma unit (stop_since since) t) ≤ MAX_HOUR
  start-size since t =
      let low = lawful.problem.scale.low in
      let high = lawful.problem.scale.high in
      let scale : unsigned_abs table.k ≤ 10 ^ 9 = omega (arith, ints, low, high) in
      let whole = abs_mul table.k (sigma unit (stop_since since) t) (10 ^ 9) MAX_COST scale (sigma-size unit lawful.problem.unit_is (stop_since since) t) in
      omega (arith, whole)

  module _ (fix : Fix) where
    pub switch-size : (t : ℕ) (was : Bool) (since : ℕ) → run_from since ≤ t → t ≤ periods
        → IsWithin (MAX_HOUR * suc (t - run_from since)) (switch_cost periods table unit fix t was since)
    switch-size t true since order within =
        only_where _ _ (MAX_HOUR * suc (t - run_from since))
        (more_room (MAX_HOUR * (t - run_from since)) (MAX_HOUR * suc (t - run_from since)) _ (omega arith) (run-size since t order within))
    switch-size t false since order within =
        only_where _ (Some (table.k *ℤ sigma unit (stop_since since) t)) (MAX_HOUR * suc (t - run_from since)) (let start = start-size since t in omega (arith, start))

    to-go-size : (n t : ℕ) (was : Bool) (since : ℕ) → run_from since ≤ t → t + n ≤ periods
        → IsWithin (2 * MAX_HOUR * n + MAX_HOUR * (t - run_from since)) (runs_to_go periods table unit fix n t was since)
    to-go-size zero t true since order within =
        more_room (MAX_HOUR * (t - run_from since)) (2 * MAX_HOUR * 0 + MAX_HOUR * (t - run_from since)) _ (omega arith) (run-size since t order (omega (arith, within)))
    to-go-size zero t false since order within = omega arith
    to-go-size (suc n) t was since order within =
        subst (IsWithin most) (sym (by_change periods table unit fix n t was since)) (lesser_of-size _ _ most
        (more_room (MAX_HOUR * suc (t - run_from since) + (2 * MAX_HOUR * n + MAX_HOUR * (suc t - t))) most _ (omega arith)
        (total_of-size _ _ (MAX_HOUR * suc (t - run_from since)) (2 * MAX_HOUR * n + MAX_HOUR * (suc t - t)) (switch-size t was since order (omega (arith, within)))
        (to-go-size n (suc t) (not was) (suc t) (omega arith) (omega (arith, within)))))
        (only_where _ _ most
        (more_room (2 * MAX_HOUR * n + MAX_HOUR * (suc t - run_from since)) most _ (omega (arith, order)) (to-go-size n (suc t) was since (omega (arith, order)) (omega (arith, within))))))
      where
        most : ℕ
        most = 2 * MAX_HOUR * suc n + MAX_HOUR * (t - run_from since)

    -- so each is within one limit
    pub switch-fits : (t : ℕ) (was : Bool) (since : ℕ) → run_from since ≤ t → t ≤ periods → IsWithin MAX_COST_TO_GO (switch_cost periods table unit fix t was since)
    switch-fits t was since order within =
        more_room (MAX_HOUR * suc (t - run_from since)) MAX_COST_TO_GO _ (let few = lawful.problem.periods_are.1 in omega (arith, within, few)) (switch-size t was since order within)

    pub to-go-fits : (n t : ℕ) (was : Bool) (since : ℕ) → run_from since ≤ t → t + n ≤ periods → IsWithin MAX_COST_TO_GO (runs_to_go periods table unit fix n t was since)
    to-go-fits n t was since order within =
        more_room (2 * MAX_HOUR * n + MAX_HOUR * (t - run_from since)) MAX_COST_TO_GO _ (let few = lawful.problem.periods_are.1 in omega (arith, within, few))
        (to-go-size n t was since order within)

-- a state begins no later than it lasts since
pub from-before : (since t : ℕ) → since ≤ t → run_from since ≤ t
from-before zero t h = omega arith
from-before (suc s) t h = omega (arith, h)
