-- The steps of runs: of a list in two parts, and of a run by its number.
use Rattle.std.proofs.Common.{◌≡◌, ℕ, ◌+◌, ◌-◌, ◌<◌, ◌≤◌, ⊎_elim, cond, List, [], ◌∷◌, ◌++◌, length, take, drop, sym, ap, ◌∙◌, arith, pos, ◌+ℤ◌, ◌*ℤ◌, unsigned_abs}
use Rattle.std.proofs.lemmas.Int.{ints}
use Rattle.std.proofs.lemmas.Bool.{lt-ltb, le-ltb, cases_lt}
use Rattle.std.proofs.lemmas.List.{take-append-drop, drop_more, take_all, take-take, drop-take, get_or-drop}
use Rattle.std.proofs.lemmas.List.Sums.{sum_by-cons, sum_by-append, sum_by_more, sum_by-take-drop}
use Rattle.uc_model.specs.Prelude.{sum_below}
use Rattle.uc_model.proofs.Common.{mul_comm, sum_below-split, sum_below-same, sum_below-const}
use Rattle.step_functions.specs.Runs.{Run, run_of, slope_at, steps_of}

-- ---- of a list in two parts
pub steps-cons : (run : Run) (rest : List Run) → steps_of (run ∷ rest) ≡ run.length + steps_of rest
steps-cons run rest = sum_by-cons (λ (x : Run). x.length) run rest

pub steps-append : (xs ys : List Run) → steps_of (xs ++ ys) ≡ steps_of xs + steps_of ys
steps-append xs ys = sum_by-append (λ (x : Run). x.length) xs ys

pub slope-first : (run : Run) (rest : List Run) (k : ℕ) → k < run.length → slope_at (run ∷ rest) k ≡ run.slope
slope-first run rest k h = ap (λ b. cond b run.slope (slope_at rest (k - run.length))) (lt-ltb k run.length h)

pub slope-later : (run : Run) (rest : List Run) (k : ℕ) → run.length ≤ k → slope_at (run ∷ rest) k ≡ slope_at rest (k - run.length)
slope-later run rest k h = ap (λ b. cond b run.slope (slope_at rest (k - run.length))) (le-ltb k run.length h)

pub slope-append_left : (xs ys : List Run) (k : ℕ) → k < steps_of xs → slope_at (xs ++ ys) k ≡ slope_at xs k
slope-append_left [] ys k h = absurd (omega arith)
slope-append_left (x ∷ xs) ys k h =
    let count = steps-cons x xs in
    ⊎_elim
    (λ (less : k < x.length). slope-first x (xs ++ ys) k less ∙ sym (slope-first x xs k less))
    (λ (more : x.length ≤ k).
    slope-later x (xs ++ ys) k more ∙ slope-append_left xs ys (k - x.length) (omega arith) ∙ sym (slope-later x xs k more))
    (cases_lt k x.length)

pub slope-append_right : (xs ys : List Run) (k : ℕ) → slope_at (xs ++ ys) (steps_of xs + k) ≡ slope_at ys k
slope-append_right [] ys k = ap (slope_at ys) (omega arith)
slope-append_right (x ∷ xs) ys k =
    let count = steps-cons x xs in
    slope-later x (xs ++ ys) (steps_of (x ∷ xs) + k) (omega arith)
    ∙ ap (slope_at (xs ++ ys)) (omega arith)
    ∙ slope-append_right xs ys k

-- ---- of a run by its number
pub steps-take-more : (runs : List Run) (i : ℕ) → i < length runs → steps_of (take (i + 1) runs) ≡ steps_of (take i runs) + (run_of runs i).length
steps-take-more runs i h = sum_by_more (λ (x : Run). x.length) runs i (record { length = 0; slope = pos 0 }) h

pub steps-take-all : (runs : List Run) (i : ℕ) → length runs ≤ i → steps_of (take i runs) ≡ steps_of runs
steps-take-all runs i h = ap steps_of (take_all i runs h)

pub steps-take-drop : (runs : List Run) (i : ℕ) → steps_of (take i runs) + steps_of (drop i runs) ≡ steps_of runs
steps-take-drop runs i = sum_by-take-drop (λ (x : Run). x.length) runs i

-- the list around a run
pub around : (runs : List Run) (i : ℕ) → i < length runs → take i runs ++ (run_of runs i ∷ drop (i + 1) runs) ≡ runs
around runs i h = grind (arith, ints, drop_more, take-append-drop, h)

pub slope-run : (runs : List Run) (i k : ℕ) → i < length runs → k < (run_of runs i).length → slope_at runs (steps_of (take i runs) + k) ≡ (run_of runs i).slope
slope-run runs i k h inside =
    ap (λ xs. slope_at xs (steps_of (take i runs) + k)) (sym (around runs i h))
    ∙ slope-append_right (take i runs) (run_of runs i ∷ drop (i + 1) runs) k
    ∙ slope-first (run_of runs i) (drop (i + 1) runs) k inside

-- how far the first steps of a run lead on
pub rise-run : (runs : List Run) (i k : ℕ) → i < length runs → k ≤ (run_of runs i).length
    → sum_below (steps_of (take i runs) + k) (slope_at runs) ≡ sum_below (steps_of (take i runs)) (slope_at runs) +ℤ (run_of runs i).slope *ℤ pos k
rise-run runs i k h inside =
    let before = steps_of (take i runs) in
    let slope = (run_of runs i).slope in
    sum_below-split before k (slope_at runs)
    ∙ ap (λ x. sum_below before (slope_at runs) +ℤ x)
    (sum_below-same k (λ j. slope_at runs (before + j)) (λ j. slope) (λ j l. slope-run runs i j h (omega arith))
    ∙ sum_below-const k slope ∙ mul_comm (pos k) slope)

pub steps-within : (runs : List Run) (i k : ℕ) → i < length runs → k ≤ (run_of runs i).length → steps_of (take i runs) + k ≤ steps_of runs
steps-within runs i k h inside =
    omega (arith, steps-take-more runs i h, steps-take-drop runs (i + 1))

-- ---- sizes, by those of the sums
abbrev pub AreSumsBelow : List Run → ℕ → Type 0
AreSumsBelow runs m = (k : ℕ) → k ≤ steps_of runs → unsigned_abs (sum_below k (slope_at runs)) ≤ m

pub climb-size : (runs : List Run) (i k m : ℕ) → i < length runs → k ≤ (run_of runs i).length → AreSumsBelow runs m
    → unsigned_abs ((run_of runs i).slope *ℤ pos k) ≤ m + m
climb-size runs i k m h inside sizes =
    let within = steps-within runs i k h inside in
    let whole = rise-run runs i k h inside in
    let before = sizes (steps_of (take i runs)) (omega arith) in
    let after = sizes (steps_of (take i runs) + k) within in
    omega (arith, ints)

-- ---- runs behind others
pub steps-take-add : (runs : List Run) (from n : ℕ) → steps_of (take (from + n) runs) ≡ steps_of (take from runs) + steps_of (take n (drop from runs))
steps-take-add runs from n =
    sym (steps-take-drop (take (from + n) runs) from)
    ∙ (λ t. steps_of (take-take from (from + n) runs (omega arith) t) + steps_of (drop-take from n runs t))

pub run-drop : (runs : List Run) (from n : ℕ) → run_of (drop from runs) n ≡ run_of runs (from + n)
run-drop runs from n = get_or-drop from runs n (record { length = 0; slope = pos 0 })
