-- A run of on hours on the least way: how it splits, and that until it may end it has to go on.
use Rattle.std.proofs.Common.{◌≡◌, ℕ, suc, ◌+◌, ◌-◌, ◌*◌, ◌<◌, ◌≤◌, true, false, ◌&&◌, sym, ap, ◌∙◌, arith, ℤ, ◌+ℤ◌, to_z, of_z, FitsSigned, Some, None, ◌==◌, unsigned_abs}
use Rattle.std.specs.Int.{w128}
use Rattle.std.proofs.lemmas.Bool.{cond-false}
use Rattle.uc_model.specs.declared.limits.TheConstants.{MAX_PERIODS}
use Rattle.uc_model.proofs.Common.{abs_add}
use Rattle.uc_model.proofs.Sizes.{wide}
use Rattle.uc_model.specs.Prelude.{period_count, may_stop}
use Rattle.dual_model.specs.Prelude.{end_cost, holds_initially, hour_before, may_be_on, move, MAX_MOVE, lesser_of, total_of}
use Rattle.unit_path.specs.inside.Choices.{Fix, Terms, Thermal, stays, stop_cost}
use Rattle.unit_path.specs.inside.Hours.{leave_cost}
use Rattle.dual_model.proofs.Costs.{lesser-comm, total-assoc, total-none, total-zero}
use Rattle.dual_model.proofs.Following.{forced-to, lasting-split}
use Rattle.unit_path.proofs.Going.{on-step, to_go}

-- ---- one period
-- a unit that may not be on doesn't stay on
pub stay-barred : (terms : Terms) (unit : Thermal) (fix : Fix) (since t : ℕ) → may_be_on fix t ≡ false → move terms unit fix t true since true ≡ None
stay-barred terms unit fix since t e = cond-false (may_be_on fix t && holds_initially unit t false) _ _ (ap (λ b. b && holds_initially unit t false) e)

-- and one that may not stop doesn't
pub stop-barred : (terms : Terms) (unit : Thermal) (fix : Fix) (since t : ℕ) → may_stop unit since t ≡ false → move terms unit fix t true since false ≡ None
stop-barred terms unit fix since t e = grind (arith, e)

pub stop-allowed : (terms : Terms) (unit : Thermal) (fix : Fix) (since t : ℕ) → may_stop unit since t ≡ true
    → move terms unit fix t true since false ≡ leave_cost terms unit fix t (since == t)
stop-allowed terms unit fix since t e = grind (arith, e)

-- where it may be on, it costs the hour before to stay on, of a later period
pub stay-hour : (terms : Terms) (unit : Thermal) (fix : Fix) (since t : ℕ) → since < t → may_be_on fix t ≡ true
    → move terms unit fix t true since true ≡ hour_before terms unit t false false
stay-hour terms unit fix since t h e = grind (arith, h, e)

-- ---- runs
-- the first period apart
pub stays-first : (terms : Terms) (unit : Thermal) (fix : Fix) (since t n : ℕ)
    → stays terms unit fix since t (suc n) ≡ total_of (move terms unit fix t true since true) (stays terms unit fix since (suc t) n)
stays-first terms unit fix since t n =
    let count : suc n ≡ 1 + n = omega arith in
    let at : t + 0 ≡ t = omega arith in
    let next : t + 1 ≡ suc t = omega arith in
    ap (stays terms unit fix since t) count
    ∙ lasting-split (move terms unit fix) true since t 1 n
    ∙ (λ i. total_of (total-zero (move terms unit fix (at i) true since true) i) (stays terms unit fix since (next i) n))

-- a run through a period in which the unit may not be on isn't there
pub stays-barred : (terms : Terms) (unit : Thermal) (fix : Fix) (since t k n : ℕ) → t ≤ k → k < t + n → may_be_on fix k ≡ false
    → stays terms unit fix since t n ≡ None
stays-barred terms unit fix since t k n low high e =
    let count : n ≡ (k - t) + suc (n - suc (k - t)) = omega arith in
    let at : t + (k - t) ≡ k = omega arith in
    ap (stays terms unit fix since t) count
    ∙ lasting-split (move terms unit fix) true since t (k - t) (suc (n - suc (k - t)))
    ∙ ap (λ x. total_of (stays terms unit fix since t (k - t)) x)
    (stays-first terms unit fix since (t + (k - t)) (n - suc (k - t))
    ∙ ap (λ x. total_of x (stays terms unit fix since (suc (t + (k - t))) (n - suc (k - t))))
    (ap (λ j. move terms unit fix j true since true) at ∙ stay-barred terms unit fix since k e))
    ∙ total-none (stays terms unit fix since t (k - t))

-- a unit that has just been switched on stops at once, or goes on until it may stop
pub run-least : (terms : Terms) (unit : Thermal) (fix : Fix) (since from : ℕ) → since < from → from ≤ period_count terms
    → ((k : ℕ) → since < k → k < from → may_stop unit since k ≡ false)
    → to_go terms unit fix since true since
    ≡ lesser_of (stop_cost terms unit fix since since) (total_of (stays terms unit fix since since (from - since)) (to_go terms unit fix from true since))
run-least terms unit fix since from low high barred =
    let count : from - since ≡ suc (from - suc since) = omega arith in
    let first = move terms unit fix since true since true in
    let rest = stays terms unit fix since (suc since) (from - suc since) in
    let later : to_go terms unit fix (suc since) true since ≡ total_of rest (to_go terms unit fix from true since) =
    forced-to (move terms unit fix) (end_cost terms unit) (period_count terms) true since (suc since) from low high
    (λ k a b. stop-barred terms unit fix since k (barred k a b)) in
    let whole : total_of first (to_go terms unit fix (suc since) true since) ≡ total_of (stays terms unit fix since since (from - since)) (to_go terms unit fix from true since) =
    ap (total_of first) later
    ∙ sym (total-assoc first rest (to_go terms unit fix from true since))
    ∙ ap (λ x. total_of x (to_go terms unit fix from true since))
    (sym (ap (stays terms unit fix since since) count ∙ stays-first terms unit fix since since (from - suc since))) in
    on-step terms unit fix since since (omega arith)
    ∙ lesser-comm _ (stop_cost terms unit fix since since)
    ∙ ap (lesser_of (stop_cost terms unit fix since since)) whole

-- what a run costs before period t
pub record IsRunTo (terms : Terms) (unit : Thermal) (fix : Fix) (since t : ℕ) (total : ℤ) : Type 0 where
  pub value : Some total ≡ stays terms unit fix since since (t - since)
  pub size : unsigned_abs total ≤ (t - since) * MAX_MOVE

run_more-value : (terms : Terms) (unit : Thermal) (fix : Fix) (since t n : ℕ) (total stay : ℤ) → since < t → n ≡ suc (t - since) → may_be_on fix t ≡ true
    → Some stay ≡ hour_before terms unit t false false → Some total ≡ stays terms unit fix since since (t - since)
    → Some (total +ℤ stay) ≡ stays terms unit fix since since n
run_more-value terms unit fix since t n total stay h e on is so_far = grind (arith, stay-hour, h, e, on, is, so_far)

pub run-first : (terms : Terms) (unit : Thermal) (fix : Fix) (since n : ℕ) (spent : ℤ) → n ≡ 1 → Some spent ≡ move terms unit fix since true since true
    → Some spent ≡ stays terms unit fix since since n
run-first terms unit fix since n spent e is = grind (arith, total-zero, e, is)

pub run-fits : (n : ℕ) (total stay : ℤ) → n ≤ MAX_PERIODS → unsigned_abs total ≤ n * MAX_MOVE → unsigned_abs stay ≤ MAX_MOVE
    → FitsSigned w128 (total +ℤ to_z w128 (of_z w128 stay))
run-fits n total stay h size more = grind (arith, h, size, more)

pub run-more : (terms : Terms) (unit : Thermal) (fix : Fix) (since t : ℕ) (total stay : ℤ) → since < t → t ≤ MAX_PERIODS → may_be_on fix t ≡ true
    → Some stay ≡ hour_before terms unit t false false → unsigned_abs stay ≤ MAX_MOVE → IsRunTo terms unit fix since t total
    → IsRunTo terms unit fix since (suc t) (to_z w128 (of_z w128 (total +ℤ to_z w128 (of_z w128 stay))))
run-more terms unit fix since t total stay h few on is more so_far = grind (arith, wide, abs_add, run_more-value, h, few, on, is, more, so_far)
