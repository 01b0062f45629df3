-- A unit's schedule cut into the trajectories of its runs, and trajectories of a pattern's runs joined to a schedule.
-- Cite from a crate above by `use Rattle.unit_runs.proofs.Joined.{joined}`.
use Rattle.std.proofs.Common.{◌≡◌, ℕ, zero, suc, ◌+◌, ◌-◌, ◌<◌, ◌≤◌, ⊎_elim, Bool, true, false, cond, true≢false, refl, sym, ap, subst, ◌∙◌, arith, ℤ, pos, ◌+ℤ◌, ◌-ℤ◌, ◌*ℤ◌, ◌≤ℤ◌, IsTrue, length}
use Rattle.std.proofs.lemmas.Bool.{cases_Bool, cases_lt, cond-true}
use Rattle.uc_model.specs.Prelude.{sum_below, bit, initial_p, last_stop, sigma, thermal_unit, IsLawfulThermal}
use Rattle.uc_model.proofs.Common.{linear, one-mul, zero-mul, sum_below-same, sum_below-add, Rises, outputs_rise}
use Rattle.dual_model.specs.Prelude.{pi_at, mu_at, IsPatternAt, UnitSchedule, greatest_output, output_before, IsUnitScheduleAt, IsUnitSchedule, exact_cell_value, unit_schedule_value}
use Rattle.dual_model.specs.ExactValue.{floored_cost}
use Rattle.unit_runs.specs.Runs.{Table, Thermal, Trajectory, output_before_hour, KeepsRamps, IsTrajectory, hour_value, trajectory_value}
use Rattle.unit_runs.specs.Patterns.{Instance, Node, Commitment, starts, begins, run_hours, EachRun, sum_over_runs, start_costs}
use Rattle.unit_runs.proofs.Hours.{InRun, in_run, run-within, run-on, begins-first, origin, origin-is}
use Rattle.unit_runs.proofs.RunSums.{sum_of_runs, sum_over_runs-same}
use Rattle.unit_runs.proofs.Cells.{IsAlong, IsIdleOff, before-is, hour-to, hour-from, stop-to, off-at}

-- ---- a schedule's trajectories
abbrev pub cut : UnitSchedule → ℕ → Trajectory
cut x from = record { p = λ i. x.p (from + i); r = λ i. x.r (from + i) }

idle-is : (periods : ℕ) (unit : Thermal) (x : UnitSchedule) → ((t : ℕ) → t < periods → IsUnitScheduleAt periods 1 unit x t) → IsIdleOff periods x
idle-is periods unit x each = record { p = λ t l off. ((each t l).off off).0; r = λ t l off. ((each t l).off off).1 }

pub cuts-are : (periods : ℕ) (unit : Thermal) (x : UnitSchedule) → ((t : ℕ) → t < periods → IsUnitScheduleAt periods 1 unit x t)
    → EachRun periods unit x.on (λ from hours. IsTrajectory periods unit from hours (cut x from))
cuts-are periods unit x each from l begin =
    let along : IsAlong periods x from (cut x from) = record { p = λ i h. refl; r = λ i h. refl } in
    let idle = idle-is periods unit x each in
    let within = run-within periods x.on from l in
    record {
      each = λ i h. hour-to periods unit x from (cut x from) l begin along idle i h (each (from + i) (omega (arith, h, within)));
      stop = λ before. stop-to periods unit x from (cut x from) l begin along idle before (each _ before);
    }

-- its value is that of these and of its starts
one_start : (b : Bool) (v : ℤ) → cond b (pos 1 *ℤ v) (pos 0) ≡ cond b v (pos 0)
one_start b v = ap (λ z. cond b z (pos 0)) (one-mul v)

pub value-of_runs : (instance : Instance) (table : Table) (g : ℕ) (x : UnitSchedule) → 0 < instance.periods
    → unit_schedule_value instance table g 1 x
    ≡ sum_over_runs instance.periods (thermal_unit instance g) x.on
    (λ from hours. trajectory_value table (thermal_unit instance g) from hours (cut x from))
    +ℤ start_costs instance.periods table (thermal_unit instance g) x.on
value-of_runs instance table g x some =
    sum_below-add periods (λ t. cond (x.on t) (exact_cell_value table 1 unit x t) (pos 0)) (λ t. cond (starts unit x.on t) (pos 1 *ℤ start t) (pos 0))
    ∙ (λ i. cells i +ℤ starts_are i)
  where
    periods : ℕ
    periods = instance.periods

    unit : Thermal
    unit = thermal_unit instance g

    start : ℕ → ℤ
    start t = table.k *ℤ sigma unit (last_stop unit x.on t) t

    hour : ℕ → ℤ
    hour t = hour_value table unit t (x.p t) (x.r t)

    cell : (t : ℕ) → exact_cell_value table 1 unit x t ≡ hour t
    cell t =
        ap (λ z. floored_cost unit.points table.k 1 (x.p t) -ℤ pi_at table t *ℤ (pos (x.p t) +ℤ z) -ℤ mu_at table t *ℤ pos (x.r t))
        (one-mul unit.pmin)

    cells : sum_below periods (λ t. cond (x.on t) (exact_cell_value table 1 unit x t) (pos 0))
        ≡ sum_over_runs periods unit x.on (λ from hours. trajectory_value table unit from hours (cut x from))
    cells =
        sum_below-same periods _ (λ t. cond (x.on t) (hour t) (pos 0)) (λ t l. ap (λ z. cond (x.on t) z (pos 0)) (cell t))
        ∙ sum_of_runs periods unit x.on hour some

    starts_are : sum_below periods (λ t. cond (starts unit x.on t) (pos 1 *ℤ start t) (pos 0)) ≡ start_costs periods table unit x.on
    starts_are = sum_below-same periods _ _ (λ t l. one_start (starts unit x.on t) (start t))

-- ---- trajectories joined
abbrev pub joined : Commitment → (ℕ → Trajectory) → UnitSchedule
joined on tr = record {
  on = on;
  p = λ t. cond (on t) ((tr (origin on t)).p (t - origin on t)) 0;
  r = λ t. cond (on t) ((tr (origin on t)).r (t - origin on t)) 0;
}

joined-idle : (periods : ℕ) (on : Commitment) (tr : ℕ → Trajectory) → IsIdleOff periods (joined on tr)
joined-idle periods on tr = grind (arith, linear)

pub joined-along : (periods : ℕ) (unit : Thermal) (on : Commitment) (tr : ℕ → Trajectory) (from : ℕ) → IsTrue (begins unit on from)
    → IsAlong periods (joined on tr) from (tr from)
joined-along periods unit on tr from begin = record {
  p = λ i l. cond-true (on (from + i)) _ 0 (run-on periods on from i l) ∙ (λ k. (tr (origin-is periods unit on from i begin l k)).p (hour i l k));
  r = λ i l. cond-true (on (from + i)) _ 0 (run-on periods on from i l) ∙ (λ k. (tr (origin-is periods unit on from i begin l k)).r (hour i l k));
}
  where
    hour : (i : ℕ) → i < run_hours periods on from → from + i - origin on (from + i) ≡ i
    hour i l = let first = origin-is periods unit on from i begin l in omega arith

pub greatest_nonneg : (unit : Thermal) → IsLawfulThermal unit → pos 0 ≤ℤ greatest_output unit.points
greatest_nonneg unit lawful =
    let some = lawful.points.0 in
    let rising : Rises unit.points = record { some = some; rising = lawful.rising } in
    let last = outputs_rise unit.points rising 0 (length unit.points - 1) (omega arith) (omega (arith, some)) in
    omega (arith, linear, last)

-- a run that ends before period t
record EndsAt (periods : ℕ) (unit : Thermal) (on : Commitment) (t : ℕ) : Type 0 where
  from : ℕ
  horizon : from < periods
  begin : IsTrue (begins unit on from)
  at : from + run_hours periods on from ≡ t

ends_now : (periods : ℕ) (unit : Thermal) (on : Commitment) → 0 < periods → unit.on0 ≡ true → on 0 ≡ false → EndsAt periods unit on 0
ends_now periods unit on some first off =
    record { from = 0; horizon = some; begin = begins-first unit on first; at = omega (arith, none) }
  where
    none : run_hours periods on 0 ≡ 0
    none = ⊎_elim
        (λ (more : 0 < run_hours periods on 0). absurd (true≢false (sym (run-on periods on 0 0 more) ∙ off)))
        (λ (no_more : run_hours periods on 0 ≤ 0). omega arith)
        (cases_lt 0 (run_hours periods on 0))

ends_later : (periods : ℕ) (unit : Thermal) (on : Commitment) (t : ℕ) → suc t < periods → on t ≡ true → on (suc t) ≡ false
    → EndsAt periods unit on (suc t)
ends_later periods unit on t l was off =
    record { from = found.from; horizon = found.horizon; begin = found.begin; at = omega (arith, last, at) }
  where
    found : InRun periods unit on t
    found = in_run periods unit on t (omega arith) was

    at : found.from + found.hour ≡ t
    at = found.at

    last : run_hours periods on found.from ≡ suc found.hour
    last = ⊎_elim
        (λ (further : suc found.hour < run_hours periods on found.from).
        let next : found.from + suc found.hour ≡ suc t = omega (arith, at) in
        absurd (true≢false (sym (run-on periods on found.from (suc found.hour) further) ∙ ap on next ∙ off)))
        (λ (past : run_hours periods on found.from ≤ suc found.hour). let within = found.within in omega (arith, within, past))
        (cases_lt (suc found.hour) (run_hours periods on found.from))

no_ramp : (unit : Thermal) (before : ℤ) → IsLawfulThermal unit → before ≡ pos 0 → KeepsRamps unit before (pos 0) (pos 0)
no_ramp unit before lawful e = grind (arith, linear, lawful, e)

module _ (instance : Instance) (node : Node) (g : ℕ) (on : Commitment) (tr : ℕ → Trajectory) (lawful : IsLawfulThermal (thermal_unit instance g))
    (each : EachRun instance.periods (thermal_unit instance g) on
    (λ from hours. IsTrajectory instance.periods (thermal_unit instance g) from hours (tr from))) where
  abbrev periods : ℕ
  periods = instance.periods

  abbrev unit : Thermal
  unit = thermal_unit instance g

  abbrev x : UnitSchedule
  x = joined on tr

  on-at : (t : ℕ) → t < periods → on t ≡ true → IsUnitScheduleAt periods 1 unit x t
  on-at t l e =
      let found = in_run periods unit on t l e in
      subst (λ k. IsUnitScheduleAt periods 1 unit x k) found.at
      (hour-from periods unit x found.from (tr found.from) found.horizon found.begin (joined-along periods unit on tr found.from found.begin)
      (joined-idle periods on tr) found.hour found.within ((each found.from found.horizon found.begin).each found.hour found.within))

  ended : (t : ℕ) → t < periods → EndsAt periods unit on t → KeepsRamps unit (output_before 1 unit x t) (pos 0) (pos 0)
  ended t l end =
      let hours = run_hours periods on end.from in
      let at = end.at in
      let before = before-is periods unit x end.from (tr end.from) end.horizon end.begin (joined-along periods unit on tr end.from end.begin)
      (joined-idle periods on tr) hours (omega arith) in
      let same : output_before_hour unit end.from (tr end.from) hours ≡ output_before 1 unit x t = sym before ∙ ap (output_before 1 unit x) at in
      subst (λ z. KeepsRamps unit z (pos 0) (pos 0)) same ((each end.from end.horizon end.begin).stop (omega (arith, at)))

  off-ramps : (t : ℕ) → t < periods → on t ≡ false → KeepsRamps unit (output_before 1 unit x t) (pos 0) (pos 0)
  off-ramps zero l off = ⊎_elim
      (λ (first : unit.on0 ≡ true). ended 0 l (ends_now periods unit on l first off))
      (λ (none : unit.on0 ≡ false).
      no_ramp unit (pos 1 *ℤ initial_p unit) lawful
      (one-mul (initial_p unit) ∙ ap (λ b. bit b *ℤ (unit.p0 -ℤ unit.pmin)) none ∙ zero-mul (unit.p0 -ℤ unit.pmin)))
      (cases_Bool unit.on0)
  off-ramps (suc t) l off = ⊎_elim
      (λ (was : on t ≡ true). ended (suc t) l (ends_later periods unit on t l was off))
      (λ (none : on t ≡ false). no_ramp unit (pos (x.p t)) lawful (ap pos ((joined-idle periods on tr).p t (omega arith) none)))
      (cases_Bool (on t))

  pub joined-is : IsPatternAt instance node g on → IsUnitSchedule instance node g 1 x
  joined-is pattern = record {
    denominator = omega arith;
    pattern = pattern;
    each = λ t l. ⊎_elim
        (λ (e : on t ≡ true). on-at t l e)
        (λ (off : on t ≡ false). off-at periods unit x t (joined-idle periods on tr) l off (greatest_nonneg unit lawful) (off-ramps t l off))
        (cases_Bool (on t));
  }

  pub joined-value : (table : Table) → 0 < periods
      → unit_schedule_value instance table g 1 x
      ≡ sum_over_runs periods unit on (λ from hours. trajectory_value table unit from hours (tr from)) +ℤ start_costs periods table unit on
  joined-value table some =
      value-of_runs instance table g x some
      ∙ ap (λ z. z +ℤ start_costs periods table unit on)
      (sum_over_runs-same periods unit on (λ from hours. trajectory_value table unit from hours (cut x from))
      (λ from hours. trajectory_value table unit from hours (tr from)) (λ from l begin.
      let along = joined-along periods unit on tr from begin in
      sum_below-same (run_hours periods on from) _ _ (λ i h. λ k. hour_value table unit (from + i) (along.p i h k) (along.r i h k))))
