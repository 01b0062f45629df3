-- Since when a commitment's state before a period lasts, and what that says of starts and stops.
use Rattle.std.proofs.Common.{◌≡◌, ℕ, zero, suc, ◌<◌, ◌≤◌, ◌⊎◌, inl, inr, ⊎_elim, Bool, true, false, not, ◌&&◌, refl, sym, ap, subst, ◌∙◌, arith, Some, ◌==◌, if◌then◌else◌}
use Rattle.std.proofs.lemmas.Bool.{cases_lt, eq-eqb, ne_eqb}
use Rattle.uc_model.specs.Prelude.{Commitment, state_before, was_on, starts, last_stop}
use Rattle.dual_model.specs.Prelude.{Thermal, stop_since, since_after}

-- since when the state before period t lasts, of a unit whose initial state this is
abbrev pub since : Bool → Commitment → ℕ → ℕ
since initial state zero = 0
since initial state (suc t) = since_after (state_before initial state t) (since initial state t) (state t) t

-- where the state doesn't change it lasts on, and where it does it lasts since then
pub since_after-same : (was : Bool) (from : ℕ) (now : Bool) (t : ℕ) → was ≡ now → since_after was from now t ≡ from
since_after-same true from true t e = refl
since_after-same true from false t e = cc
since_after-same false from true t e = cc
since_after-same false from false t e = refl

pub since_after-other : (was : Bool) (from : ℕ) (now : Bool) (t : ℕ) → was ≡ not now → since_after was from now t ≡ suc t
since_after-other true from true t e = cc
since_after-other true from false t e = refl
since_after-other false from true t e = refl
since_after-other false from false t e = cc

pub since-le : (initial : Bool) (state : Commitment) (t : ℕ) → since initial state t ≤ t
since-le initial state zero = omega arith
since-le initial state (suc t) = grind (arith, (since-le initial state t))

-- a state that a unit is in after period t began in it exactly where it was entered there
began : (was : Bool) (from : ℕ) (t : ℕ) → from ≤ t → (since_after was from true t == suc t) ≡ (not was && true)
began true from t h = ne_eqb from (suc t) (λ e. omega arith)
began false from t h = eq-eqb (suc t) (suc t) refl

pub since-start : (unit : Thermal) (on : Commitment) (t : ℕ) → on t ≡ true → (since unit.on0 on (suc t) == suc t) ≡ starts unit on t
since-start unit on t e = grind (arith, began, since-le, e)

-- the last stop of a unit that is off
last_stop-step : (unit : Thermal) (on : Commitment) (t : ℕ) (was now : Bool) → was_on unit on t ≡ was → on t ≡ now → now ≡ false
    → (was_on unit on t ≡ false → last_stop unit on t ≡ stop_since (since unit.on0 on t))
    → (if was && not now then Some t else last_stop unit on t) ≡ stop_since (since_after was (since unit.on0 on t) now t)
last_stop-step unit on t was true w n e before = cc
last_stop-step unit on t true false w n e before = refl
last_stop-step unit on t false false w n e before = before w

pub last_stop-since : (unit : Thermal) (on : Commitment) (t : ℕ) → was_on unit on t ≡ false → last_stop unit on t ≡ stop_since (since unit.on0 on t)
last_stop-since unit on zero e = refl
last_stop-since unit on (suc t) e = last_stop-step unit on t (was_on unit on t) (on t) refl refl e (last_stop-since unit on t)

-- ---- where a state came from
-- a state that lasts since before the horizon is the initial one
cases_same : (a b : Bool) → (a ≡ b) ⊎ (a ≡ not b)
cases_same true true = inl refl
cases_same true false = inr refl
cases_same false true = inr refl
cases_same false false = inl refl

pub since-zero : (initial : Bool) (state : Commitment) (t : ℕ) → since initial state t ≡ 0 → state_before initial state t ≡ initial
since-zero initial state zero e = refl
since-zero initial state (suc t) e =
    ⊎_elim
    (λ (same : state_before initial state t ≡ state t).
    sym same ∙ since-zero initial state t (sym (since_after-same _ (since initial state t) _ t same) ∙ e))
    (λ (other : state_before initial state t ≡ not (state t)).
    let later : since initial state (suc t) ≡ suc t = since_after-other _ (since initial state t) _ t other in
    absurd (omega arith))
    (cases_same (state_before initial state t) (state t))

-- the period in which the state before period t was entered
pub record Origin (initial : Bool) (state : Commitment) (t k : ℕ) : Type 0 where
  pub before : k < t
  pub kept : (j : ℕ) → k ≤ j → j < t → state j ≡ state_before initial state t
  pub switched : state_before initial state k ≡ not (state k)

pub since-suc : (initial : Bool) (state : Commitment) (t k : ℕ) → since initial state t ≡ suc k → Origin initial state t k
since-suc initial state zero k e = absurd (omega arith)
since-suc initial state (suc t) k e =
    ⊎_elim
    (λ (same : state_before initial state t ≡ state t).
    let earlier = since-suc initial state t k (sym (since_after-same _ (since initial state t) _ t same) ∙ e) in
    let before : k < t = earlier.before in
    record {
      before = omega arith;
      kept = λ j h l. ⊎_elim
          (λ (less : j < t). earlier.kept j h less ∙ same)
          (λ (past : t ≤ j). let last : j ≡ t = omega arith in ap state last)
          (cases_lt j t);
      switched = earlier.switched;
    })
    (λ (other : state_before initial state t ≡ not (state t)).
    let now : since initial state (suc t) ≡ suc t = since_after-other _ (since initial state t) _ t other in
    let here : k ≡ t = omega arith in
    record {
      before = omega arith;
      kept = λ j h l. let last : j ≡ t = omega arith in ap state last;
      switched = subst (λ i. state_before initial state i ≡ not (state i)) (sym here) other;
    })
    (cases_same (state_before initial state t) (state t))
