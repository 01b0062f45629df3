-- How values rise and fall with the steps, and where they are least.
use Rattle.std.proofs.Common.{◌≡◌, ℕ, ◌+◌, ◌-◌, ◌<◌, ◌≤◌, ⊎_elim, List, subst, arith, ℤ, pos, negsuc, ◌+ℤ◌, ◌*ℤ◌, ◌≤ℤ◌}
use Rattle.std.proofs.lemmas.Bool.{cases_lt}
use Rattle.uc_model.specs.Prelude.{sum_below}
use Rattle.uc_model.proofs.Common.{linear, mul-zero, mul-neg, mul-one, sum_below-split, sum_below-le, sum_below-const}
use Rattle.step_functions.specs.Runs.{Run, slope_at, steps_of}
use Rattle.step_functions.specs.inside.Edits.{AreBelow}
use Rattle.step_functions.specs.inside.Kept.{height}

-- from i on by d steps
pub height-split : (value : ℤ) (runs : List Run) (i d : ℕ) → height value runs (i + d) ≡ height value runs i +ℤ sum_below d (λ k. slope_at runs (i + k))
height-split value runs i d = let e = sum_below-split i d (slope_at runs) in omega (arith, linear)

-- the least and the most that steps of bounded slopes rise by
climb-least : (value : ℤ) (runs : List Run) (i d : ℕ) (slope : ℤ) → ((k : ℕ) → k < d → slope ≤ℤ slope_at runs (i + k))
    → (height value runs i +ℤ pos d *ℤ slope) ≤ℤ height value runs (i + d)
climb-least value runs i d slope h =
    let whole = height-split value runs i d in
    let least = sum_below-le d (λ k. slope) (λ k. slope_at runs (i + k)) h in
    let const = sum_below-const d slope in
    omega (arith, linear)

climb-most : (value : ℤ) (runs : List Run) (i d : ℕ) (slope : ℤ) → ((k : ℕ) → k < d → slope_at runs (i + k) ≤ℤ slope)
    → height value runs (i + d) ≤ℤ (height value runs i +ℤ pos d *ℤ slope)
climb-most value runs i d slope h =
    let whole = height-split value runs i d in
    let most = sum_below-le d (λ k. slope_at runs (i + k)) (λ k. slope) h in
    let const = sum_below-const d slope in
    omega (arith, linear)

-- from i to j at least by the slope at each step, and at most
pub rises : (value : ℤ) (runs : List Run) (i j : ℕ) (slope : ℤ) → i ≤ j → ((k : ℕ) → i ≤ k → k < j → slope ≤ℤ slope_at runs k)
    → (height value runs i +ℤ pos (j - i) *ℤ slope) ≤ℤ height value runs j
rises value runs i j slope h over =
    let there : i + (j - i) ≡ j = omega arith in
    subst (λ n. (height value runs i +ℤ pos (j - i) *ℤ slope) ≤ℤ height value runs n) there
    (climb-least value runs i (j - i) slope (λ k l. over (i + k) (omega arith) (omega arith)))

pub falls : (value : ℤ) (runs : List Run) (i j : ℕ) (slope : ℤ) → i ≤ j → ((k : ℕ) → i ≤ k → k < j → slope_at runs k ≤ℤ slope)
    → height value runs j ≤ℤ (height value runs i +ℤ pos (j - i) *ℤ slope)
falls value runs i j slope h under =
    let there : i + (j - i) ≡ j = omega arith in
    subst (λ n. height value runs n ≤ℤ (height value runs i +ℤ pos (j - i) *ℤ slope)) there
    (climb-most value runs i (j - i) slope (λ k l. under (i + k) (omega arith) (omega arith)))

-- ---- steps below a slope in front
-- up to where the slopes are below 0 the values fall, and from there on they don't
pub height-falls : (value : ℤ) (runs : List Run) (m i j : ℕ) → AreBelow runs (pos 0) m → i ≤ j → j ≤ m → height value runs j ≤ℤ height value runs i
height-falls value runs m i j is h within =
    let f = falls value runs i j (pos 0) h (λ k l u. let b = is.below k (omega arith) in omega (arith, linear)) in
    let none = mul-zero (pos (j - i)) in
    omega (arith, linear)

pub height-rises : (value : ℤ) (runs : List Run) (m i j : ℕ) → AreBelow runs (pos 0) m → m ≤ i → i ≤ j → j ≤ steps_of runs → height value runs i ≤ℤ height value runs j
height-rises value runs m i j is from h within =
    let f = rises value runs i j (pos 0) h (λ k l u. is.next k (omega arith) (omega arith)) in
    let none = mul-zero (pos (j - i)) in
    omega (arith, linear)

pub height-least : (value : ℤ) (runs : List Run) (m k : ℕ) → AreBelow runs (pos 0) m → k ≤ steps_of runs → height value runs m ≤ℤ height value runs k
height-least value runs m k is within = grind (arith, linear, height-falls, height-rises, cases_lt, is, within)

-- ---- where the least value is
pub height-level : (value : ℤ) (runs : List Run) (m l k : ℕ) → AreBelow runs (pos 0) m → AreBelow runs (pos 1) l → m ≤ k → k ≤ l
    → height value runs k ≡ height value runs m
height-level value runs m l k is level from to =
    let f = falls value runs m k (pos 0) from (λ j a b. let u = level.below j (omega arith) in omega (arith, linear)) in
    let up = height-least value runs m k is (omega (arith, level.within)) in
    let none = mul-zero (pos (k - m)) in
    omega (arith, linear)

pub level-from : (value : ℤ) (runs : List Run) (m l k : ℕ) → AreBelow runs (pos 0) m → AreBelow runs (pos 1) l → k ≤ steps_of runs
    → height value runs k ≡ height value runs m → m ≤ k
level-from value runs m l k is level within same =
    ⊎_elim
    (λ (less : k < m).
    let f = falls value runs k m (negsuc 0) (omega arith) (λ j a b. let u = is.below j (omega arith) in omega (arith, linear)) in
    let down = mul-neg (pos (m - k)) (pos 1) in
    let one = mul-one (pos (m - k)) in
    absurd (omega (arith, linear)))
    (λ (more : m ≤ k). more)
    (cases_lt k m)

pub level-to : (value : ℤ) (runs : List Run) (m l k : ℕ) → AreBelow runs (pos 0) m → AreBelow runs (pos 1) l → k ≤ steps_of runs
    → height value runs k ≡ height value runs m → k ≤ l
level-to value runs m l k is level within same =
    ⊎_elim
    (λ (less : l < k).
    let f = rises value runs l k (pos 1) (omega arith) (λ j a b. level.next j (omega arith) (omega arith)) in
    let up = height-least value runs m l is level.within in
    let one = mul-one (pos (k - l)) in
    absurd (omega (arith, linear)))
    (λ (more : k ≤ l). more)
    (cases_lt l k)
