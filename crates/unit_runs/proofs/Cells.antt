-- What a unit's schedule keeps in the cells of a run is what its trajectory there keeps, and the other way round.
-- Cite from a crate above by `use Rattle.unit_runs.proofs.Cells.{IsAlong}`.
use Rattle.std.proofs.Common.{◌≡◌, ℕ, zero, suc, ◌+◌, ◌<◌, ◌≤◌, ⊎_elim, Bool, true, false, not, ◌&&◌, ◌==◌, nat_lt, true≢false, refl, sym, ap, subst, ◌∙◌, arith, ℤ, pos, ◌+ℤ◌, ◌-ℤ◌, ◌*ℤ◌, ◌≤ℤ◌, IsTrue}
use Rattle.std.specs.Int.{int_min}
use Rattle.std.proofs.lemmas.Int.{ints}
use Rattle.std.proofs.lemmas.Bool.{cases_Bool, cases_lt, cond-true, cond-false, and_from, and_left, and_right, not_from_false, eq-eqb, ne_eqb, lt-ltb, le-ltb}
use Rattle.uc_model.specs.Prelude.{bit, was_on, stops, start_cap, stop_cap, start_reduction, stop_reduction, initial_p, cap}
use Rattle.uc_model.proofs.Common.{linear, one-mul, le_trans, int_min_left, int_min_right}
use Rattle.dual_model.specs.Prelude.{is_followed, UnitSchedule, greatest_output, output_before, IsUnitScheduleAt}
use Rattle.dual_model.proofs.CellCaps.{cell_cap-cap}
use Rattle.unit_runs.specs.Runs.{Thermal, Trajectory, entry_output, output_before_hour, hour_cap, KeepsRamps, IsHourOf}
use Rattle.unit_runs.specs.Patterns.{Commitment, starts, begins, run_hours}
use Rattle.unit_runs.proofs.Hours.{run-on, run-end, run-next, begins-later}

-- ---- the least of both caps, by each
le_min : (z a b : ℤ) → z ≤ℤ a → z ≤ℤ b → z ≤ℤ int_min a b
le_min z a b h k = grind (arith, ints)

cap-from : (periods : ℕ) (unit : Thermal) (on : Commitment) (t : ℕ) (z : ℤ) → z ≤ℤ start_cap unit on t
    → (suc t < periods → z ≤ℤ stop_cap unit on t) → z ≤ℤ cap periods unit on t
cap-from periods unit on t z start stop = grind (arith, ints, cond-true, lt-ltb, le_min, cond-false, le-ltb, cases_lt, start, stop)

pub cap-start : (periods : ℕ) (unit : Thermal) (on : Commitment) (t : ℕ) (z : ℤ) → z ≤ℤ cap periods unit on t → z ≤ℤ start_cap unit on t
cap-start periods unit on t z h = ⊎_elim
    (λ (within : suc t < periods).
    le_trans z _ _ (subst (λ c. z ≤ℤ c) (cond-true (nat_lt (suc t) periods) _ (start_cap unit on t) (lt-ltb (suc t) periods within)) h)
    (int_min_left (start_cap unit on t) (stop_cap unit on t)))
    (λ (last : periods ≤ suc t).
    subst (λ c. z ≤ℤ c)
    (cond-false (nat_lt (suc t) periods) (int_min (start_cap unit on t) (stop_cap unit on t)) _ (le-ltb (suc t) periods last)) h)
    (cases_lt (suc t) periods)

pub cap-stop : (periods : ℕ) (unit : Thermal) (on : Commitment) (t : ℕ) (z : ℤ) → z ≤ℤ cap periods unit on t → suc t < periods
    → z ≤ℤ stop_cap unit on t
cap-stop periods unit on t z h within =
    le_trans z _ _ (subst (λ c. z ≤ℤ c) (cond-true (nat_lt (suc t) periods) _ (start_cap unit on t) (lt-ltb (suc t) periods within)) h)
    (int_min_right (start_cap unit on t) (stop_cap unit on t))

-- ---- an hour of a run by its cell
module _ (periods : ℕ) (unit : Thermal) (on : Commitment) (from : ℕ) (begin : IsTrue (begins unit on from)) where
  abbrev hours : ℕ
  hours = run_hours periods on from

  -- the first hour is a start, but where the unit was on before the first period
  started : ℕ → Bool → Bool
  started t start = start && not (unit.on0 && (t == 0))

  first_hour : (t : ℕ) → IsTrue (begins unit on t) → on t ≡ true → started t true ≡ started t (starts unit on t)
  unfolding started
  first_hour zero b e = by_first unit.on0 (on 0) e
    where
      by_first : (a b : Bool) → b ≡ true → (true && not (a && (0 == 0))) ≡ ((not a && b) && not (a && (0 == 0)))
      by_first true b e = sym (and_right (not true && b) false refl)
      by_first false b e = ap (λ z. (true && z) && true) (sym e)
  first_hour (suc t) b e =
      let was = (begins-later unit on t b).0 in
      ap (λ z. z && not (unit.on0 && (suc t == 0))) (sym (and_from (not (on t)) (on (suc t)) (not_from_false (on t) was) e))

  later_hour : (i : ℕ) → suc i < hours → starts unit on (from + suc i) ≡ false
  later_hour i l =
      let next : from + suc i ≡ suc (from + i) = omega arith in
      ap (starts unit on) next ∙ ap (λ z. not z && on (suc (from + i))) (run-on periods on from i (omega arith))

  started-is : (i : ℕ) → i < hours → started (from + i) (i == 0) ≡ started (from + i) (starts unit on (from + i))
  unfolding started
  started-is zero l =
      let same : from + 0 ≡ from = omega arith in
      ap (λ t. started t true) same
      ∙ first_hour from begin (ap on (sym same) ∙ run-on periods on from 0 l)
      ∙ ap (λ t. started t (starts unit on t)) (sym same)
  started-is (suc i) l =
      ap (started (from + suc i)) (ne_eqb (suc i) 0 (λ e. omega arith) ∙ sym (later_hour i l))

  -- the last hour is followed by a stop, but at the end of the horizon
  followed : ℕ → Bool → Bool
  followed t stop = stop && nat_lt (suc t) periods

  followed-is : (i : ℕ) → i < hours → followed (from + i) (suc i == hours) ≡ followed (from + i) (is_followed periods unit on (from + i))
  unfolding followed
  followed-is i l = ⊎_elim
      (λ (within : suc (from + i) < periods). before within)
      (λ (last : periods ≤ suc (from + i)).
      let none = le-ltb (suc (from + i)) periods last in
      and_right (suc i == hours) _ none ∙ sym (and_right (is_followed periods unit on (from + i)) _ none))
      (cases_lt (suc (from + i)) periods)
    where
      now : on (from + i) ≡ true
      now = run-on periods on from i l

      before : suc (from + i) < periods
          → ((suc i == hours) && nat_lt (suc (from + i)) periods) ≡ (is_followed periods unit on (from + i) && nat_lt (suc (from + i)) periods)
      before within = ap (λ z. z && nat_lt (suc (from + i)) periods) (⊎_elim
          (λ (stays : on (suc (from + i)) ≡ true).
          let further : suc i < hours = run-next periods on from i l within stays in
          ne_eqb (suc i) hours (λ e. omega arith)
          ∙ sym (and_left (stops unit on (suc (from + i))) _ (and_right (on (from + i)) _ (ap not stays))))
          (λ (off : on (suc (from + i)) ≡ false).
          eq-eqb (suc i) hours (ended off)
          ∙ sym (and_from (stops unit on (suc (from + i))) _ (and_from (on (from + i)) _ now (not_from_false _ off)) (lt-ltb (suc (from + i)) periods within)))
          (cases_Bool (on (suc (from + i)))))
        where
          ended : on (suc (from + i)) ≡ false → suc i ≡ hours
          ended off = ⊎_elim
              (λ (less : suc i < hours).
              let next : from + suc i ≡ suc (from + i) = omega arith in
              absurd (true≢false (sym (run-on periods on from (suc i) less) ∙ ap on next ∙ off)))
              (λ (past : hours ≤ suc i). omega arith)
              (cases_lt (suc i) hours)

  pub hour_cap-is : (i : ℕ) → i < hours → hour_cap periods unit from hours i ≡ cap periods unit on (from + i)
  unfolding started followed
  hour_cap-is i l =
      (λ k. int_min (unit.pmax -ℤ unit.pmin -ℤ start_reduction unit *ℤ bit (started-is i l k))
      (unit.pmax -ℤ unit.pmin -ℤ stop_reduction unit *ℤ bit (followed-is i l k)))
      ∙ cell_cap-cap periods unit on (from + i) (run-on periods on from i l)

-- ---- a schedule along a run
-- its numbers in the run are the trajectory's
pub record IsAlong (periods : ℕ) (x : UnitSchedule) (from : ℕ) (tr : Trajectory) : Type 0 where
  pub p : (i : ℕ) → i < run_hours periods x.on from → x.p (from + i) ≡ tr.p i
  pub r : (i : ℕ) → i < run_hours periods x.on from → x.r (from + i) ≡ tr.r i

-- an off period has no output and no reserve
pub record IsIdleOff (periods : ℕ) (x : UnitSchedule) : Type 0 where
  pub p : (t : ℕ) → t < periods → x.on t ≡ false → x.p t ≡ 0
  pub r : (t : ℕ) → t < periods → x.on t ≡ false → x.r t ≡ 0

module _ (periods : ℕ) (unit : Thermal) (x : UnitSchedule) (from : ℕ) (tr : Trajectory) (horizon : from < periods)
    (begin : IsTrue (begins unit x.on from)) (along : IsAlong periods x from tr) (idle : IsIdleOff periods x) where
  abbrev length : ℕ
  length = run_hours periods x.on from

  -- the output before an hour of the run, and behind the last one
  entry-is : (t : ℕ) → t < periods → IsTrue (begins unit x.on t) → output_before 1 unit x t ≡ entry_output unit t
  entry-is zero l b = one-mul (initial_p unit)
  entry-is (suc t) l b = ap pos (idle.p t (omega arith) (begins-later unit x.on t b).0)

  pub before-is : (i : ℕ) → i ≤ length → output_before 1 unit x (from + i) ≡ output_before_hour unit from tr i
  before-is zero l =
      let same : from + 0 ≡ from = omega arith in ap (output_before 1 unit x) same ∙ entry-is from horizon begin
  before-is (suc i) l =
      let next : from + suc i ≡ suc (from + i) = omega arith in ap (output_before 1 unit x) next ∙ ap pos (along.p i (omega arith))

  pub hour-to : (i : ℕ) → i < length → IsUnitScheduleAt periods 1 unit x (from + i) → IsHourOf periods unit from length tr i
  hour-to i l h =
      let before = before-is i (omega arith) in
      let p = along.p i l in
      let r = along.r i l in
      let wide = h.width in
      let one_width = one-mul (greatest_output unit.points) in
      let start = h.start_cap in
      let one_start = one-mul (start_cap unit x.on (from + i)) in
      let one_stop = one-mul (stop_cap unit x.on (from + i)) in
      let fits = cap-from periods unit x.on (from + i) (pos (x.p (from + i)) +ℤ pos (x.r (from + i))) (omega (arith, linear, start, one_start))
      (λ within. let stop = h.stop_cap within in omega (arith, linear, stop, one_stop)) in
      let limit = hour_cap-is periods unit x.on from begin i l in
      let up = h.ramp_up in
      let down = h.ramp_down in
      let one_up = one-mul unit.ru in
      let one_down = one-mul unit.rd in
      record {
        width = omega (arith, linear, p, wide, one_width);
        cap = omega (arith, linear, p, r, fits, limit);
        ramps = record { up = omega (arith, linear, p, r, before, up, one_up); down = omega (arith, linear, p, before, down, one_down) };
      }

  pub hour-from : (i : ℕ) → i < length → IsHourOf periods unit from length tr i → IsUnitScheduleAt periods 1 unit x (from + i)
  hour-from i l h =
      let before = before-is i (omega arith) in
      let p = along.p i l in
      let r = along.r i l in
      let wide = h.width in
      let one_width = one-mul (greatest_output unit.points) in
      let one_start = one-mul (start_cap unit x.on (from + i)) in
      let one_stop = one-mul (stop_cap unit x.on (from + i)) in
      let fits = h.cap in
      let limit = hour_cap-is periods unit x.on from begin i l in
      let whole : (pos (x.p (from + i)) +ℤ pos (x.r (from + i))) ≤ℤ cap periods unit x.on (from + i) = omega (arith, linear, p, r, fits, limit) in
      let up = h.ramps.up in
      let down = h.ramps.down in
      let one_up = one-mul unit.ru in
      let one_down = one-mul unit.rd in
      record {
        off = λ off. absurd (true≢false (sym (run-on periods x.on from i l) ∙ off));
        width = omega (arith, linear, p, wide, one_width);
        start_cap = let most = cap-start periods unit x.on (from + i) _ whole in omega (arith, linear, most, one_start);
        stop_cap = λ within. let most = cap-stop periods unit x.on (from + i) _ whole within in omega (arith, linear, most, one_stop);
        ramp_up = omega (arith, linear, p, r, before, up, one_up);
        ramp_down = omega (arith, linear, p, before, down, one_down);
      }

  -- a stop behind the run
  pub stop-to : from + length < periods → IsUnitScheduleAt periods 1 unit x (from + length)
      → KeepsRamps unit (output_before_hour unit from tr length) (pos 0) (pos 0)
  stop-to within h =
      let off = run-end periods x.on from within in
      let before = before-is length (omega arith) in
      let p = idle.p (from + length) within off in
      let r = idle.r (from + length) within off in
      let up = h.ramp_up in
      let down = h.ramp_down in
      let one_up = one-mul unit.ru in
      let one_down = one-mul unit.rd in
      record { up = omega (arith, linear, p, r, before, up, one_up); down = omega (arith, linear, p, before, down, one_down) }

-- ---- an off period
off_cap : (room reduction : ℤ) (b c : Bool) → b ≡ false → c ≡ false → (room *ℤ bit b -ℤ reduction *ℤ bit c) ≡ pos 0
off_cap room reduction b c e f = grind (arith, ints, e, f)

pub off-at : (periods : ℕ) (unit : Thermal) (x : UnitSchedule) (t : ℕ) → IsIdleOff periods x → t < periods → x.on t ≡ false
    → pos 0 ≤ℤ greatest_output unit.points → KeepsRamps unit (output_before 1 unit x t) (pos 0) (pos 0)
    → IsUnitScheduleAt periods 1 unit x t
off-at periods unit x t idle l off wide ramps =
    let p = idle.p t l off in
    let r = idle.r t l off in
    let one_width = one-mul (greatest_output unit.points) in
    let no_start = off_cap (unit.pmax -ℤ unit.pmin) (start_reduction unit) (x.on t) (starts unit x.on t) off (and_right (not (was_on unit x.on t)) _ off) in
    let no_stop = off_cap (unit.pmax -ℤ unit.pmin) (stop_reduction unit) (x.on t) (stops unit x.on (suc t)) off (and_left (x.on t) _ off) in
    let one_start = one-mul (start_cap unit x.on t) in
    let one_stop = one-mul (stop_cap unit x.on t) in
    let up = ramps.up in
    let down = ramps.down in
    let one_up = one-mul unit.ru in
    let one_down = one-mul unit.rd in
    record {
      off = λ e. (p, r);
      width = omega (arith, linear, p, wide, one_width);
      start_cap = omega (arith, linear, p, r, no_start, one_start);
      stop_cap = λ within. omega (arith, linear, p, r, no_stop, one_stop);
      ramp_up = omega (arith, linear, p, r, up, one_up);
      ramp_down = omega (arith, linear, p, down, one_down);
    }
