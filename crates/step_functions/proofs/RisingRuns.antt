-- Runs whose slopes rise: those below a slope stand in front.
use Rattle.std.proofs.Common.{◌≡◌, ℕ, zero, suc, ◌+◌, ◌-◌, ◌<◌, ◌≤◌, ⊎_elim, List, length, take, ap, arith, ℤ, pos, ◌<ℤ◌, ◌≤ℤ◌}
use Rattle.std.proofs.lemmas.Bool.{cases_lt}
use Rattle.uc_model.proofs.Common.{linear}
use Rattle.step_functions.specs.Runs.{Run, run_of, slope_at, steps_of}
use Rattle.step_functions.specs.inside.Edits.{AreBelow}
use Rattle.step_functions.specs.inside.Kept.{HaveSteps, AreRising}
use Rattle.step_functions.proofs.RunSteps.{steps-take-more, steps-take-all, steps-take-drop, steps-within, slope-run}

-- the steps of the first n runs are below, where the runs are
steps-below : (runs : List Run) (n : ℕ) (slope : ℤ) → HaveSteps runs → AreRising runs → n ≤ length runs
    → ((i : ℕ) → i < n → (run_of runs i).slope <ℤ slope) → (k : ℕ) → k < steps_of (take n runs) → slope_at runs k <ℤ slope
steps-below runs zero slope lengths rising within below k h = absurd (omega arith)
steps-below runs (suc m) slope lengths rising within below k h =
    let some = lengths m (record { length = 0; slope = pos 0 }) (omega arith) in
    let more = steps-take-more runs m (omega arith) in
    let next : m + 1 ≡ suc m = omega arith in
    let count = ap (λ n. steps_of (take n runs)) next in
    let last = (run_of runs m).length - 1 in
    let there = steps-within runs m (run_of runs m).length (omega arith) (omega arith) in
    let slope_there = slope-run runs m last (omega arith) (omega arith) in
    let up = rising k (steps_of (take m runs) + last) (omega arith) (omega arith) in
    let under = below m (omega arith) in
    omega (arith, linear)

-- and the others are not
steps-next : (runs : List Run) (n : ℕ) (slope : ℤ) → HaveSteps runs → AreRising runs
    → (n < length runs → slope ≤ℤ (run_of runs n).slope) → (k : ℕ) → steps_of (take n runs) ≤ k → k < steps_of runs → slope ≤ℤ slope_at runs k
steps-next runs n slope lengths rising next k h inside =
    ⊎_elim
    (λ (within : n < length runs).
    let some = lengths n (record { length = 0; slope = pos 0 }) within in
    let first = slope-run runs n 0 within (omega arith) in
    let none : steps_of (take n runs) + 0 ≡ steps_of (take n runs) = omega arith in
    let same = ap (slope_at runs) none in
    let up = rising (steps_of (take n runs)) k h inside in
    let over = next within in
    omega (arith, linear))
    (λ (past : length runs ≤ n). let all = steps-take-all runs n past in absurd (omega arith))
    (cases_lt n (length runs))

pub runs-below : (runs : List Run) (n : ℕ) (slope : ℤ) → HaveSteps runs → AreRising runs → n ≤ length runs
    → ((i : ℕ) → i < n → (run_of runs i).slope <ℤ slope) → (n < length runs → slope ≤ℤ (run_of runs n).slope)
    → AreBelow runs slope (steps_of (take n runs))
runs-below runs n slope lengths rising within below next = record {
  within = omega (arith, steps-take-drop runs n);
  below = steps-below runs n slope lengths rising within below;
  next = steps-next runs n slope lengths rising next;
}
