-- A function that goes on by a run.
use Rattle.std.proofs.Common.{◌≡◌, ℕ, ◌+◌, ◌-◌, ◌<◌, ◌≤◌, ⊎_elim, List, [], ◌∷◌, ◌++◌, sym, ap, subst, ◌∙◌, arith, ℤ, pos, ◌+ℤ◌, ◌-ℤ◌, ◌*ℤ◌, ◌≤ℤ◌, ◌<ℤ◌, unsigned_abs}
use Rattle.std.proofs.lemmas.Bool.{cases_lt}
use Rattle.std.proofs.lemmas.Int.{ints}
use Rattle.std.proofs.lemmas.List.Sums.{sum_by_push}
use Rattle.std.proofs.lemmas.List.Elements.{All-push}
use Rattle.uc_model.proofs.Common.{linear, le_or_lt, pos_of_nonneg, sum_below-same, sum_below-split, sum_below-const}
use Rattle.step_functions.specs.Runs.{Run, slope_at, steps_of}
use Rattle.step_functions.specs.Functions.{Steps, IsPlace, IsSmall, IsWithin, last_place, value_at}
use Rattle.step_functions.specs.inside.Kept.{height, AreRising, AreSmall, IsKept}
use Rattle.step_functions.proofs.RunSteps.{slope-append_left, slope-append_right, slope-first}
use Rattle.step_functions.proofs.Values.{steps_between, steps-within, place-steps, value_at-place, value_at-steps}

abbrev pub extended : Steps → Run → ℕ → Steps
extended f run room = record f { runs = f.runs ++ run ∷ []; room = room }

pub extended-count : (runs : List Run) (run : Run) → steps_of (runs ++ run ∷ []) ≡ steps_of runs + run.length
extended-count runs run = sum_by_push (λ (x : Run). x.length) runs run

pub extended-old : (runs : List Run) (run : Run) (k : ℕ) → k < steps_of runs → slope_at (runs ++ run ∷ []) k ≡ slope_at runs k
extended-old runs run k h = slope-append_left runs (run ∷ []) k h

pub extended-new : (runs : List Run) (run : Run) (k : ℕ) → k < run.length → slope_at (runs ++ run ∷ []) (steps_of runs + k) ≡ run.slope
extended-new runs run k h = slope-append_right runs (run ∷ []) k ∙ slope-first run [] k h

height-old : (value : ℤ) (runs : List Run) (run : Run) (k : ℕ) → k ≤ steps_of runs → height value (runs ++ run ∷ []) k ≡ height value runs k
height-old value runs run k h = grind (arith, ints, sum_below-same, extended-old, h)

height-new : (value : ℤ) (runs : List Run) (run : Run) (k : ℕ) → k ≤ run.length
    → height value (runs ++ run ∷ []) (steps_of runs + k) ≡ height value runs (steps_of runs) +ℤ pos k *ℤ run.slope
height-new value runs run k h =
    let new = slope_at (runs ++ run ∷ []) in
    let before = height-old value runs run (steps_of runs) (omega arith) in
    let whole = sum_below-split (steps_of runs) k new in
    let steps = sum_below-same k (λ j. new (steps_of runs + j)) (λ j. run.slope) (λ j l. extended-new runs run j (omega arith)) ∙ sum_below-const k run.slope in
    omega (arith, linear)

pub extended-before : (f : Steps) (run : Run) (room : ℕ) (p : ℤ) → IsPlace f p → value_at (extended f run room) p ≡ value_at f p
extended-before f run room p place =
    let k = steps_between f.first p in
    value_at-place (extended f run room) p k (place-steps f p place)
    ∙ height-old f.value f.runs run k (steps-within f p place)
    ∙ sym (value_at-place f p k (place-steps f p place))

pub extended-after : (f : Steps) (run : Run) (room : ℕ) (k : ℕ) → k ≤ run.length → value_at (extended f run room) (last_place f +ℤ pos k) ≡ value_at f (last_place f) +ℤ pos k *ℤ run.slope
extended-after f run room k h =
    let at : last_place f +ℤ pos k ≡ f.first +ℤ pos (steps_of f.runs + k) = omega (arith, ints) in
    value_at-place (extended f run room) (last_place f +ℤ pos k) (steps_of f.runs + k) at
    ∙ height-new f.value f.runs run k h
    ∙ ap (λ x. x +ℤ pos k *ℤ run.slope) (sym (value_at-steps f (steps_of f.runs)))

-- ---- it keeps to the limits
-- between two small values a line is small
between : (a slope : ℤ) (d n : ℕ) → d ≤ n → IsSmall a → IsSmall (a +ℤ pos n *ℤ slope) → IsSmall (a +ℤ pos d *ℤ slope)
between a slope d n h low high = grind (arith, ints, h, low, high)

extended-rising : (runs : List Run) (run : Run) → AreRising runs → ((k : ℕ) → k < steps_of runs → slope_at runs k ≤ℤ run.slope) → AreRising (runs ++ run ∷ [])
extended-rising runs run rising under j k h l =
    let count = extended-count runs run in
    ⊎_elim
    (λ (old : k < steps_of runs).
    let a = extended-old runs run j (omega arith) in
    let b = extended-old runs run k old in
    let up = rising j k h old in
    omega (arith, linear))
    (λ (new : steps_of runs ≤ k).
    let there : steps_of runs + (k - steps_of runs) ≡ k = omega arith in
    let b : slope_at (runs ++ run ∷ []) k ≡ run.slope = subst (λ n. slope_at (runs ++ run ∷ []) n ≡ run.slope) there (extended-new runs run (k - steps_of runs) (omega arith)) in
    ⊎_elim
    (λ (less : j < steps_of runs).
    let a = extended-old runs run j less in
    let up = under j less in
    omega (arith, linear))
    (λ (more : steps_of runs ≤ j).
    let here : steps_of runs + (j - steps_of runs) ≡ j = omega arith in
    let a : slope_at (runs ++ run ∷ []) j ≡ run.slope = subst (λ n. slope_at (runs ++ run ∷ []) n ≡ run.slope) here (extended-new runs run (j - steps_of runs) (omega arith)) in
    omega (arith, linear))
    (cases_lt j (steps_of runs)))
    (cases_lt k (steps_of runs))

extended-small : (f : Steps) (run : Run) → IsKept f → IsSmall (value_at f (last_place f) +ℤ pos run.length *ℤ run.slope) → AreSmall f.value (f.runs ++ run ∷ [])
extended-small f run kept reached k h =
    let n = steps_of f.runs in
    let count = extended-count f.runs run in
    ⊎_elim
    (λ (old : k < n). subst IsSmall (sym (height-old f.value f.runs run k (omega arith))) (kept.values k (omega arith)))
    (λ (new : n ≤ k).
    let there : n + (k - n) ≡ k = omega arith in
    let last = subst (λ x. IsSmall (x +ℤ pos run.length *ℤ run.slope)) (value_at-steps f n) reached in
    let line = between (height f.value f.runs n) run.slope (k - n) run.length (omega arith) (kept.values n (omega arith)) last in
    subst (λ m. IsSmall (height f.value (f.runs ++ run ∷ []) m)) there (subst IsSmall (sym (height-new f.value f.runs run (k - n) (omega arith))) line))
    (cases_lt k n)

pub extended-kept : (f : Steps) (run : Run) (room : ℕ) → IsKept f → 1 ≤ run.length → ((k : ℕ) → k < steps_of f.runs → slope_at f.runs k ≤ℤ run.slope)
    → IsWithin (last_place f +ℤ pos run.length) → IsSmall (value_at f (last_place f) +ℤ pos run.length *ℤ run.slope) → IsKept (extended f run room)
extended-kept f run room kept some under within reached =
    let P : Run → Type 0 = λ run. 1 ≤ run.length in
    let count = extended-count f.runs run in
    record {
      steps = All-push P f.runs run kept.steps some;
      rising = extended-rising f.runs run kept.rising under;
      first = kept.first;
      last = omega (arith, ints);
      values = extended-small f run kept reached;
    }

-- the values of a function that is continued, where those before and those along the new steps are at most so large
pub continued-size : (f g : Steps) (length : ℕ) (slope : ℤ) (m : ℕ) → g.first ≡ f.first → last_place g ≡ last_place f +ℤ pos length
    → ((p : ℤ) → IsPlace f p → value_at g p ≡ value_at f p)
    → ((k : ℕ) → k ≤ length → value_at g (last_place f +ℤ pos k) ≡ value_at f (last_place f) +ℤ pos k *ℤ slope)
    → ((p : ℤ) → IsPlace f p → unsigned_abs (value_at f p) ≤ m)
    → ((k : ℕ) → k ≤ length → unsigned_abs (value_at f (last_place f) +ℤ pos k *ℤ slope) ≤ m)
    → (p : ℤ) → IsPlace g p → unsigned_abs (value_at g p) ≤ m
continued-size f g length slope m first last before after old new p place = ⊎_elim
    (λ (low : p ≤ℤ last_place f).
    let begins = place.low in
    let own : IsPlace f p = record { low = omega (arith, linear, begins, first); high = low } in
    subst (λ z. unsigned_abs z ≤ m) (sym (before p own)) (old p own))
    (λ (high : last_place f <ℤ p).
    let ends = place.high in
    let step = pos_of_nonneg (p -ℤ last_place f) (omega (arith, linear, high)) in
    let size = step.1 in
    let here : p ≡ last_place f +ℤ pos step.0 = omega (arith, linear, size) in
    let within : step.0 ≤ length = omega (arith, linear, size, ends, last) in
    subst (λ z. unsigned_abs z ≤ m) (sym (ap (value_at g) here ∙ after step.0 within)) (new step.0 within))
    (le_or_lt p (last_place f))

-- of the value at one place
pub alone-size : (f : Steps) (place value : ℤ) (m : ℕ) → f.first ≡ place → last_place f ≡ place → value_at f place ≡ value → unsigned_abs value ≤ m
    → (p : ℤ) → IsPlace f p → unsigned_abs (value_at f p) ≤ m
alone-size f place value m first last is small p at = grind (arith, ints, last, is, small, at)
