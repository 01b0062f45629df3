-- A part of the runs, with a slope added to each.
use Rattle.std.proofs.Common.{◌≡◌, ℕ, ◌+◌, ◌-◌, ◌<◌, ◌≤◌, ◌^◌, List, ◌++◌, length, take, drop, map, All, sym, ap, subst, ◌∙◌, arith, ℤ, pos, unsigned_abs, to_z, of_z}
use Rattle.std.specs.Int.{w128}
use Rattle.std.proofs.lemmas.List.{append_assoc, take-append-drop, take_at, drop-drop, get_or-take, length-take, length-map, length-append, length-drop}
use Rattle.std.proofs.lemmas.List.Elements.{All-append, All-take, All-drop, All-map, All-from_get_or}
use borrow.Rule.Slice.PartMut.{post_of}
use Rattle.uc_model.proofs.Common.{abs_wide}
use Rattle.step_functions.specs.Runs.{Run, run_of, slope_at, steps_of}
use Rattle.step_functions.specs.inside.Edits.{with_slope, SameSteps, IsSteeper}
use Rattle.step_functions.specs.inside.Kept.{HaveSteps}
use Rattle.step_functions.proofs.RunSteps.{steps-append, steps-take-add, steps-take-more, run-drop}
use Rattle.step_functions.proofs.RunEdits.{steps-with_slope, steeper-mid, run-slope}

-- the runs from `from` to the one before `end`
abbrev pub part_of : List Run → ℕ → ℕ → List Run
part_of runs from end = take (end - from) (drop from runs)

-- the runs with a slope added to those
abbrev pub steeper_part : List Run → ℕ → ℕ → ℤ → List Run
steeper_part runs from end slope = take from runs ++ (map (with_slope slope) (part_of runs from end) ++ drop end runs)

behind : (runs : List Run) (from end : ℕ) → from ≤ end → drop (end - from) (drop from runs) ≡ drop end runs
behind runs from end h = drop-drop (end - from) from runs ∙ ap (λ n. drop n runs) (omega arith)

pub in_parts : (runs : List Run) (from end : ℕ) → from ≤ end → take from runs ++ (part_of runs from end ++ drop end runs) ≡ runs
in_parts runs from end h = grind (arith, behind, take-append-drop, h)

length-part : (runs : List Run) (from end : ℕ) → from ≤ end → end ≤ length runs → length (part_of runs from end) ≡ end - from
length-part runs from end h within = length-take (end - from) (drop from runs) ∙ (let e = length-drop from runs in omega arith)

-- what a write to the part leaves of a `Vec`
pub written : (runs part : List Run) (from end n : ℕ) (slope : ℤ) → from ≤ end → end ≤ length runs → n ≡ length runs
    → part ≡ map (with_slope slope) (part_of runs from end)
    → (let all = take from runs ++ (part ++ post_of from (end - from) runs) in take n (all ++ drop (length all) runs)) ≡ steeper_part runs from end slope
written runs part from end n slope h within count is =
    grind (arith, length-take, length-map, length-part, behind, length-drop, length-append, take_at, h, within, count, is)

-- ---- what it is to the steps
pub steps-part : (runs : List Run) (from end : ℕ) → from ≤ end → steps_of (take end runs) ≡ steps_of (take from runs) + steps_of (part_of runs from end)
steps-part runs from end h = ap (λ n. steps_of (take n runs)) (omega arith) ∙ steps-take-add runs from (end - from)

pub steeper-part : (runs : List Run) (from end : ℕ) (slope : ℤ) → from ≤ end
    → IsSteeper runs (steeper_part runs from end slope) (steps_of (take from runs)) (steps_of (part_of runs from end)) slope
steeper-part runs from end slope h =
    subst (λ xs. IsSteeper xs (steeper_part runs from end slope) (steps_of (take from runs)) (steps_of (part_of runs from end)) slope)
    (in_parts runs from end h) (steeper-mid (take from runs) (part_of runs from end) (drop end runs) slope)

pub steps-take-steeper : (runs : List Run) (from end : ℕ) (slope : ℤ) → from ≤ end → end ≤ length runs
    → steps_of (take end (steeper_part runs from end slope)) ≡ steps_of (take end runs)
steps-take-steeper runs from end slope h within =
    let front = take from runs in
    let part = map (with_slope slope) (part_of runs from end) in
    let a = length-take from runs in
    let b : length part ≡ end - from = length-map (part_of runs from end) (with_slope slope) ∙ length-part runs from end h within in
    let whole : length (front ++ part) ≡ end = length-append front part ∙ omega arith in
    let d = steps-with_slope (part_of runs from end) slope in
    let e = steps-append front part in
    let f = steps-part runs from end h in
    ap steps_of (ap (take end) (sym (append_assoc front part (drop end runs))) ∙ take_at (front ++ part) (drop end runs) end whole)
    ∙ omega arith

pub have_steps-steeper : (runs : List Run) (from end : ℕ) (slope : ℤ) → HaveSteps runs → HaveSteps (steeper_part runs from end slope)
have_steps-steeper runs from end slope lengths =
    let P : Run → Type 0 = λ run. 1 ≤ run.length in
    let part = part_of runs from end in
    All-append P (take from runs) (map (with_slope slope) part ++ drop end runs) (All-take P from runs lengths)
    (All-append P (map (with_slope slope) part) (drop end runs)
    (All-map P (with_slope slope) part (All-take P (end - from) (drop from runs) (All-drop P from runs lengths)))
    (All-drop P end runs lengths))

-- the same runs divided before
pub steeper-same : (xs ys zs : List Run) (before count : ℕ) (slope : ℤ) → SameSteps xs ys → IsSteeper ys zs before count slope → IsSteeper xs zs before count slope
steeper-same xs ys zs before count slope same steeper = grind (arith, same, steeper)

-- ---- the slopes of the part are those of steps
part_place : (runs : List Run) (from end i : ℕ) → from ≤ end → end ≤ length runs → i < end - from → run_of (part_of runs from end) i ≡ run_of runs (from + i)
part_place runs from end i h within inside = grind (arith, get_or-take, run-drop, h, within, inside)

pub part-sizes : (old runs : List Run) (from end count : ℕ) (slope : ℤ) → from ≤ end → end ≤ length runs → HaveSteps runs → SameSteps old runs
    → take from runs ≡ take from old → steps_of (take end runs) ≡ steps_of (take from old) + count
    → ((k : ℕ) → k < count → unsigned_abs (slope_at old (steps_of (take from old) + k)) + unsigned_abs slope < 2 ^ 127)
    → All (λ run. unsigned_abs run.slope + unsigned_abs (to_z w128 (of_z w128 slope)) < 2 ^ 127) (part_of runs from end)
part-sizes old runs from end count slope h within lengths same front total sizes =
    let part = part_of runs from end in
    let d : Run = record { length = 0; slope = pos 0 } in
    let P : Run → Type 0 = λ run. unsigned_abs run.slope + unsigned_abs (to_z w128 (of_z w128 slope)) < 2 ^ 127 in
    All-from_get_or P part d (λ i inside.
    let n = length-part runs from end h within in
    let k = steps_of (take i (drop from runs)) in
    let at : steps_of (take (from + i) runs) ≡ steps_of (take from old) + k = steps-take-add runs from i ∙ ap (λ xs. steps_of xs + k) front in
    let more = steps-take-more runs (from + i) (omega arith) in
    let some = lengths (from + i) d (omega arith) in
    let last : steps_of (take (from + i + 1) runs) ≤ steps_of (take end runs) = steps-up (from + i + 1) end runs (omega arith) in
    let small = sizes k (omega arith) in
    let bits = abs_wide slope in
    let is : (run_of part i).slope ≡ slope_at old (steps_of (take from old) + k) =
    (λ t. (part_place runs from end i h within (omega arith) t).slope)
    ∙ run-slope runs (from + i) (omega arith) lengths ∙ same.slopes (steps_of (take (from + i) runs)) ∙ ap (slope_at old) at in
    let size = ap unsigned_abs is in
    omega arith)
  where
    steps-up : (i j : ℕ) (xs : List Run) → i ≤ j → steps_of (take i xs) ≤ steps_of (take j xs)
    steps-up i j xs h = let e = steps-part xs i j h in omega arith
