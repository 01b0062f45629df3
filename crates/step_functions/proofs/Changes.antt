-- What each change of a function makes of it.
use Rattle.std.proofs.Common.{◌≡◌, ℕ, suc, ◌+◌, ◌*◌, ◌<◌, ◌≤◌, ◌^◌, List, ◌++◌, length, take, drop, map, All, refl, sym, ap, subst, ◌∙◌, arith, ℤ, pos, ◌+ℤ◌, ◌*ℤ◌, unsigned_abs, to_z, of_z}
use mir.Val.{SFits}
use Rattle.std.specs.Int.{w64, w128}
use Rattle.std.proofs.lemmas.Int.{ints, fits_signed_from_abs}
use Rattle.std.proofs.lemmas.List.{take_at}
use Rattle.std.proofs.lemmas.List.Elements.{All-map, All-from_get_or}
use Rattle.uc_model.specs.Prelude.{sum_below}
use Rattle.uc_model.proofs.Common.{linear, mul-add, mul-zero, mul-one, mul_comm, sum_below-same, sum_below-add, sum_below-const}
use Rattle.step_functions.specs.Runs.{Run, run_of, slope_at, steps_of}
use Rattle.step_functions.specs.Functions.{Steps, IsPlace, IsSmall, value_at, IsWithin, MAX_VALUE}
use Rattle.step_functions.specs.inside.Edits.{with_slope}
use Rattle.step_functions.specs.inside.Kept.{HaveSteps, HaveSmallSlopes, IsKept}
use Rattle.step_functions.proofs.RunSteps.{steps-within as runs-within}
use Rattle.step_functions.proofs.RunEdits.{run-slope, slope-with_slope, steps-with_slope}
use Rattle.step_functions.proofs.Values.{IsMadeOf, made-in_place, kept-made, is_place-steps, value_at-steps}

-- ---- numbers as their bits
pub bits-plain : (value slope watts : ℤ) → IsSmall value → SFits w128 slope → SFits w64 watts
    → to_z w128 (of_z w128 value) +ℤ to_z w128 (of_z w128 slope) *ℤ to_z w64 (of_z w64 watts) ≡ value +ℤ slope *ℤ watts
bits-plain value slope watts small fits narrow = grind (arith, ints, small, fits, narrow)

pub within-fits : (place : ℤ) → IsWithin place → SFits w64 place
within-fits place h = fits_signed_from_abs w64 place (omega arith)

-- runs that are all written
pub all-written : (runs new : List Run) (n : ℕ) → n ≡ length runs → length new ≡ length runs → take n (new ++ drop (length new) runs) ≡ new
all-written runs new n count same = take_at new (drop (length new) runs) n (same ∙ sym count)

-- ---- a constant added
pub constant-made : (f : Steps) (v constant : ℤ) → v ≡ f.value +ℤ constant → IsMadeOf f (record f { value = v }) 0 (λ p. constant)
constant-made f v constant is = made-in_place f (record f { value = v }) (λ p. constant) refl (omega arith) (λ k h. omega (arith, linear))

pub constant-kept : (f : Steps) (v constant : ℤ) → v ≡ f.value +ℤ constant → IsKept f
    → ((p : ℤ) → IsPlace f p → IsSmall (value_at f p +ℤ constant)) → IsKept (record f { value = v })
constant-kept f v constant is kept small =
    kept-made f (record f { value = v }) 0 (λ p. constant) kept (constant-made f v constant is) kept.steps kept.rising (λ p place own. small p place)

-- ---- slopes
-- what steps rise by where each has a slope more
pub sum-steeper : (old new : ℕ → ℤ) (slope : ℤ) (k : ℕ) → ((j : ℕ) → j < k → new j ≡ old j +ℤ slope) → sum_below k new ≡ sum_below k old +ℤ pos k *ℤ slope
sum-steeper old new slope k h =
    sum_below-same k new (λ j. old j +ℤ slope) h ∙ sum_below-add k old (λ j. slope) ∙ ap (λ x. sum_below k old +ℤ x) (sum_below-const k slope)

pub kept-slopes : (f : Steps) → IsKept f → HaveSmallSlopes f.runs
kept-slopes f kept k h =
    let here = kept.values k (omega arith) in
    let next = kept.values (suc k) (omega arith) in
    omega (arith, ints)

-- a slope that is added to each step is small, where there is one
pub added-small : (f : Steps) (slope : ℤ) → IsKept f → 0 < steps_of f.runs → ((p : ℤ) → IsPlace f p → IsSmall (value_at f p +ℤ slope *ℤ p))
    → unsigned_abs slope ≤ 4 * MAX_VALUE
added-small f slope kept some small =
    let own = kept.values 0 (omega arith) in
    let other = kept.values 1 (omega arith) in
    let first = is_place-steps f 0 (omega arith) in
    let second = is_place-steps f 1 (omega arith) in
    let at_first = value_at-steps f 0 in
    let at_second = value_at-steps f 1 in
    let a = small (f.first +ℤ pos 0) first in
    let b = small (f.first +ℤ pos 1) second in
    let c = mul-add slope f.first (pos 0) in
    let d = mul-add slope f.first (pos 1) in
    let e = mul-zero slope in
    let g = mul-one slope in
    omega (arith, ints)

-- each run has the slope of a step
pub run-sizes : (f : Steps) (slope : ℤ) → IsKept f → ((p : ℤ) → IsPlace f p → IsSmall (value_at f p +ℤ slope *ℤ p))
    → All (λ run. unsigned_abs run.slope + unsigned_abs slope < 2 ^ 127) f.runs
run-sizes f slope kept small =
    let d : Run = record { length = 0; slope = pos 0 } in
    let P : Run → Type 0 = λ run. unsigned_abs run.slope + unsigned_abs slope < 2 ^ 127 in
    All-from_get_or P f.runs d (λ i h.
    let some = kept.steps i d h in
    let within = runs-within f.runs i (run_of f.runs i).length h (omega arith) in
    let is = ap unsigned_abs (run-slope f.runs i h kept.steps) in
    let own = kept-slopes f kept (steps_of (take i f.runs)) (omega arith) in
    let added = added-small f slope kept (omega arith) small in
    omega arith)

pub slope-made : (f : Steps) (v slope : ℤ) (runs : List Run) → v ≡ f.value +ℤ slope *ℤ f.first → runs ≡ map (with_slope slope) f.runs
    → IsMadeOf f (record f { value = v; runs = runs }) 0 (λ p. slope *ℤ p)
slope-made f v slope runs is each =
    let count : steps_of runs ≡ steps_of f.runs = ap steps_of each ∙ steps-with_slope f.runs slope in
    made-in_place f (record f { value = v; runs = runs }) (λ p. slope *ℤ p) refl (omega arith) (λ k h.
    let sum = sum-steeper (slope_at f.runs) (slope_at runs) slope k
    (λ j l. ap (λ xs. slope_at xs j) each ∙ slope-with_slope f.runs slope j (omega arith)) in
    let spread_out = mul-add slope f.first (pos k) in
    let turned = mul_comm slope (pos k) in
    omega (arith, linear))

pub slope-kept : (f : Steps) (v slope : ℤ) (runs : List Run) → v ≡ f.value +ℤ slope *ℤ f.first → runs ≡ map (with_slope slope) f.runs
    → IsKept f → ((p : ℤ) → IsPlace f p → IsSmall (value_at f p +ℤ slope *ℤ p)) → IsKept (record f { value = v; runs = runs })
slope-kept f v slope runs is each kept small =
    let count : steps_of runs ≡ steps_of f.runs = ap steps_of each ∙ steps-with_slope f.runs slope in
    let P : Run → Type 0 = λ run. 1 ≤ run.length in
    kept-made f (record f { value = v; runs = runs }) 0 (λ p. slope *ℤ p) kept (slope-made f v slope runs is each)
    (subst HaveSteps (sym each) (All-map P (with_slope slope) f.runs kept.steps))
    (λ j k h l.
    let a : slope_at runs j ≡ slope_at f.runs j +ℤ slope = ap (λ xs. slope_at xs j) each ∙ slope-with_slope f.runs slope j (omega arith) in
    let b : slope_at runs k ≡ slope_at f.runs k +ℤ slope = ap (λ xs. slope_at xs k) each ∙ slope-with_slope f.runs slope k (omega arith) in
    let up = kept.rising j k h (omega arith) in
    omega (arith, linear))
    (λ p place own. small p place)
