-- A rest on the least way: how it splits, and that until it may end it has to go on.
use Rattle.std.proofs.Common.{◌≡◌, ℕ, zero, suc, ◌+◌, ◌-◌, ◌<◌, ◌≤◌, true, false, refl, ap, ◌∙◌, arith, pos, Some, None, if◌then◌else◌}
use Rattle.std.proofs.lemmas.Bool.{cond-true, cond-false, le-leb, leb-true}
use Rattle.uc_model.specs.Prelude.{period_count, has_lasted, may_start}
use Rattle.dual_model.specs.Prelude.{may_be_off, move, lesser_of, total_of}
use Rattle.unit_path.specs.inside.Choices.{Fix, Terms, Thermal, rests, start_total}
use Rattle.dual_model.proofs.Costs.{total-none, total-zero}
use Rattle.dual_model.proofs.Following.{forced-to, lasting-split}
use Rattle.unit_path.proofs.Going.{off-step, to_go}

-- a state that has lasted for long enough has so in a later period
pub lasted-later : (left most since t k : ℕ) → t ≤ k → has_lasted left most since t ≡ true → has_lasted left most since k ≡ true
lasted-later left most zero t k h may = let low = leb-true left t may in le-leb left k (omega arith)
lasted-later left most (suc s) t k h may = let low = leb-true (s + most) t may in le-leb (s + most) k (omega arith)

-- ---- one period
pub rest-allowed : (terms : Terms) (unit : Thermal) (fix : Fix) (since t : ℕ) → may_be_off unit fix t ≡ true → move terms unit fix t false since false ≡ Some (pos 0)
rest-allowed terms unit fix since t e = cond-true (may_be_off unit fix t) (Some (pos 0)) None e

pub start-barred : (terms : Terms) (unit : Thermal) (fix : Fix) (since t : ℕ) → may_start unit since t ≡ false → move terms unit fix t false since true ≡ None
start-barred terms unit fix since t e = grind (arith, e)

-- ---- rests
-- where the unit may rest throughout, it costs nothing
pub rests-free : (terms : Terms) (unit : Thermal) (fix : Fix) (since t n : ℕ) → ((k : ℕ) → t ≤ k → k < t + n → may_be_off unit fix k ≡ true) → rests terms unit fix since t n ≡ Some (pos 0)
rests-free terms unit fix since t zero may = refl
rests-free terms unit fix since t (suc n) may =
    λ i. total_of (rests-free terms unit fix since t n (λ k a b. may k a (omega arith)) i)
    (cond-true (may_be_off unit fix (t + n)) (Some (pos 0)) None (may (t + n) (omega arith) (omega arith)) i)

-- and through a period in which it may not be off there is none
pub rests-barred : (terms : Terms) (unit : Thermal) (fix : Fix) (since t k n : ℕ) → t ≤ k → k < t + n → may_be_off unit fix k ≡ false → rests terms unit fix since t n ≡ None
rests-barred terms unit fix since t k n low high e =
    let count : n ≡ suc (k - t) + (n - suc (k - t)) = omega arith in
    let at : t + (k - t) ≡ k = omega arith in
    let here : (if may_be_off unit fix (t + (k - t)) then Some (pos 0) else None) ≡ None =
    cond-false (may_be_off unit fix (t + (k - t))) (Some (pos 0)) None (ap (may_be_off unit fix) at ∙ e) in
    ap (rests terms unit fix since t) count
    ∙ lasting-split (move terms unit fix) false since t (suc (k - t)) (n - suc (k - t))
    ∙ ap (λ x. total_of x (rests terms unit fix since (t + suc (k - t)) (n - suc (k - t))))
    (ap (total_of (rests terms unit fix since t (k - t))) here ∙ total-none (rests terms unit fix since t (k - t)))

-- until it may start, the unit has to stay off
pub rest-until : (terms : Terms) (unit : Thermal) (fix : Fix) (since from : ℕ) → since ≤ from → from ≤ period_count terms
    → ((k : ℕ) → since ≤ k → k < from → may_start unit since k ≡ false)
    → to_go terms unit fix since false since ≡ total_of (rests terms unit fix since since (from - since)) (to_go terms unit fix from false since)
rest-until terms unit fix since from low high barred = grind (arith, forced-to, start-barred, low, high, barred)

-- where it may rest, the least of a start and of a rest; else a start
pub off-free : (terms : Terms) (unit : Thermal) (fix : Fix) (since t : ℕ) → t < period_count terms → may_be_off unit fix t ≡ true
    → to_go terms unit fix t false since ≡ lesser_of (start_total terms unit fix since t) (to_go terms unit fix (suc t) false since)
off-free terms unit fix since t h may = grind (arith, off-step, to_go, rest-allowed, total-zero, h, may)

pub off-barred : (terms : Terms) (unit : Thermal) (fix : Fix) (since t : ℕ) → t < period_count terms → may_be_off unit fix t ≡ false
    → to_go terms unit fix t false since ≡ start_total terms unit fix since t
off-barred terms unit fix since t h barred = grind (arith, h, barred)
