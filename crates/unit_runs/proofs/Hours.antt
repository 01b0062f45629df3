-- The hours of a run: in them the unit is on, and behind them it is off or the horizon ends; and each on period lies in one
-- run.
-- Cite from a crate above by `use Rattle.unit_runs.proofs.Hours.{in_run}`.
use Rattle.std.proofs.Common.{◌≡◌, ℕ, zero, suc, ◌+◌, ◌-◌, ◌<◌, ◌≤◌, ⊎_elim, true, false, refl, ap, ◌∙◌, arith, IsTrue, if◌then◌else◌}
use Rattle.std.proofs.lemmas.Bool.{cases_Bool, cases_lt, cond-true, cond-false, and_from, or_left, or_right, not_from_false}
use Rattle.uc_model.specs.Prelude.{was_on}
use Rattle.unit_runs.specs.Runs.{Thermal}
use Rattle.unit_runs.specs.Patterns.{Commitment, starts, begins, hours_on, run_hours}

-- ---- counting on periods
pub more : (on : Commitment) (n t : ℕ) → on t ≡ true → hours_on on (suc n) t ≡ suc (hours_on on n (suc t))
more on n t e = cond-true (on t) (suc (hours_on on n (suc t))) 0 e

pub no_more : (on : Commitment) (n t : ℕ) → on t ≡ false → hours_on on (suc n) t ≡ 0
no_more on n t e = cond-false (on t) (suc (hours_on on n (suc t))) 0 e

hours_on-le : (on : Commitment) (n t : ℕ) → hours_on on n t ≤ n
hours_on-le on zero t = omega arith
hours_on-le on (suc n) t = grind (arith, (hours_on-le on n (suc t)))

hours_on-within : (on : Commitment) (n t i : ℕ) → i < hours_on on n t → on (t + i) ≡ true
hours_on-within on zero t i h = absurd (omega arith)
hours_on-within on (suc n) t zero h = grind (arith, h)
hours_on-within on (suc n) t (suc i) h = ⊎_elim
    (λ (e : on t ≡ true).
    let all = more on n t e in
    let same : t + suc i ≡ suc t + i = omega arith in
    ap on same ∙ hours_on-within on n (suc t) i (omega arith))
    (λ (e : on t ≡ false). absurd (let none = no_more on n t e in omega arith))
    (cases_Bool (on t))

hours_on-end : (on : Commitment) (n t : ℕ) → hours_on on n t < n → on (t + hours_on on n t) ≡ false
hours_on-end on zero t h = absurd (omega arith)
hours_on-end on (suc n) t h = ⊎_elim
    (λ (e : on t ≡ true).
    let all = more on n t e in
    let same : t + hours_on on (suc n) t ≡ suc t + hours_on on n (suc t) = omega arith in
    ap on same ∙ hours_on-end on n (suc t) (omega arith))
    (λ (e : on t ≡ false).
    let all = no_more on n t e in
    let same : t + hours_on on (suc n) t ≡ t = omega arith in
    ap on same ∙ e)
    (cases_Bool (on t))

hours_on-some : (on : Commitment) (n t : ℕ) → 0 < n → on t ≡ true → 0 < hours_on on n t
hours_on-some on zero t h e = absurd (omega arith)
hours_on-some on (suc n) t h e = let all = more on n t e in omega arith

-- ---- the same of the run that begins in a period
pub run-within : (periods : ℕ) (on : Commitment) (t : ℕ) → t < periods → t + run_hours periods on t ≤ periods
run-within periods on t l = omega (arith, hours_on-le on (periods - t) t)

pub run-on : (periods : ℕ) (on : Commitment) (t i : ℕ) → i < run_hours periods on t → on (t + i) ≡ true
run-on periods on t i h = hours_on-within on (periods - t) t i h

pub run-end : (periods : ℕ) (on : Commitment) (t : ℕ) → t + run_hours periods on t < periods → on (t + run_hours periods on t) ≡ false
run-end periods on t h = hours_on-end on (periods - t) t (omega arith)

pub run-some : (periods : ℕ) (on : Commitment) (t : ℕ) → t < periods → on t ≡ true → 0 < run_hours periods on t
run-some periods on t l e = hours_on-some on (periods - t) t (omega arith) e

-- the hour behind one of the run is of the run exactly where the unit is on in it
pub run-next : (periods : ℕ) (on : Commitment) (t i : ℕ) → i < run_hours periods on t → suc (t + i) < periods → on (suc (t + i)) ≡ true
    → suc i < run_hours periods on t
run-next periods on t i h l e = grind (arith, run-end, cases_lt, h, l, e)

-- ---- where runs begin
pub begins-start : (unit : Thermal) (on : Commitment) (t : ℕ) → IsTrue (starts unit on t) → IsTrue (begins unit on t)
begins-start unit on t h = or_left (starts unit on t) _ h

pub begins-first : (unit : Thermal) (on : Commitment) → unit.on0 ≡ true → IsTrue (begins unit on 0)
begins-first unit on h = or_right (starts unit on 0) _ (and_from unit.on0 true h refl)

-- a later run begins with a start
pub begins-later : (unit : Thermal) (on : Commitment) (t : ℕ) → IsTrue (begins unit on (suc t)) → (on t ≡ false) × (on (suc t) ≡ true)
begins-later unit on t h = grind (arith, h)

-- one that begins in the first period is that from before, or a start
pub begins-now : (unit : Thermal) (on : Commitment) (t : ℕ) → was_on unit on t ≡ false → on t ≡ true → IsTrue (begins unit on t)
begins-now unit on t w n = begins-start unit on t (and_from _ _ (not_from_false _ w) n)

pub begins-off : (unit : Thermal) (on : Commitment) → unit.on0 ≡ false → IsTrue (begins unit on 0) → on 0 ≡ true
begins-off unit on off h = grind (arith, off, h)

-- ---- the run of an on period
pub record InRun (periods : ℕ) (unit : Thermal) (on : Commitment) (t : ℕ) : Type 0 where
  pub from : ℕ
  pub hour : ℕ
  pub horizon : from < periods
  pub begin : IsTrue (begins unit on from)
  pub at : from + hour ≡ t
  pub within : hour < run_hours periods on from

pub in_run : (periods : ℕ) (unit : Thermal) (on : Commitment) (t : ℕ) → t < periods → on t ≡ true → InRun periods unit on t
in_run periods unit on zero l e = record {
  from = 0;
  hour = 0;
  horizon = l;
  begin = ⊎_elim (λ (first : unit.on0 ≡ true). begins-first unit on first) (λ (off : unit.on0 ≡ false). begins-now unit on 0 off e) (cases_Bool unit.on0);
  at = omega arith;
  within = run-some periods on 0 l e;
}
in_run periods unit on (suc t) l e = ⊎_elim
    (λ (was : on t ≡ true).
    let earlier = in_run periods unit on t (omega arith) was in
    let at = earlier.at in
    let next : suc (earlier.from + earlier.hour) ≡ suc t = omega (arith, at) in
    record {
      from = earlier.from;
      hour = suc earlier.hour;
      horizon = earlier.horizon;
      begin = earlier.begin;
      at = omega (arith, at);
      within = run-next periods on earlier.from earlier.hour earlier.within (omega (arith, at)) (ap on next ∙ e);
    })
    (λ (off : on t ≡ false). record {
      from = suc t;
      hour = 0;
      horizon = l;
      begin = begins-now unit on (suc t) off e;
      at = omega arith;
      within = run-some periods on (suc t) l e;
    })
    (cases_Bool (on t))

-- the period in which the run of an on period began
abbrev pub origin : Commitment → ℕ → ℕ
origin on zero = 0
origin on (suc t) = if on t then origin on t else suc t

origin-first : (unit : Thermal) (on : Commitment) (from : ℕ) → IsTrue (begins unit on from) → origin on from ≡ from
origin-first unit on zero h = refl
origin-first unit on (suc t) h = cond-false (on t) (origin on t) (suc t) (begins-later unit on t h).0

pub origin-is : (periods : ℕ) (unit : Thermal) (on : Commitment) (from i : ℕ) → IsTrue (begins unit on from)
    → i < run_hours periods on from → origin on (from + i) ≡ from
origin-is periods unit on from zero h l = grind (arith, origin-first, h, l)
origin-is periods unit on from (suc i) h l =
    let same : from + suc i ≡ suc (from + i) = omega arith in
    ap (origin on) same
    ∙ cond-true (on (from + i)) (origin on (from + i)) (suc (from + i)) (run-on periods on from i (omega arith))
    ∙ origin-is periods unit on from i h (omega arith)
