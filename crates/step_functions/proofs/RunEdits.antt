-- What edits leave of the steps of runs.
use Rattle.std.proofs.Common.{◌≡◌, ℕ, suc, ◌+◌, ◌-◌, ◌<◌, ◌≤◌, ⊎_elim, List, [], ◌∷◌, ◌++◌, length, take, drop, set, get_or, map, All, refl, sym, ap, subst, ◌∙◌, arith, ℤ, pos, ◌+ℤ◌, ◌^◌, unsigned_abs, to_z, of_z}
use Rattle.std.specs.Int.{w128}
use Rattle.std.proofs.lemmas.Int.{ints, to_z-of_z, fits_signed_from_abs}
use Rattle.std.proofs.lemmas.Bool.{cases_lt}
use Rattle.std.proofs.lemmas.List.{append_assoc, take-append-drop, set_split, take-set, drop-set, take_at, length_push, length-take-le, length-map, length-append, length-drop, drop_more, get_or_at, get_or_read, get_or_default}
use Rattle.std.proofs.lemmas.List.Edits.{map_over_more}
use Rattle.std.proofs.lemmas.List.Sums.{sum_by_push}
use Rattle.std.proofs.lemmas.List.Elements.{All-append, All-cons, All-take, All-drop}
use Rattle.step_functions.specs.Runs.{Run, run_of, slope_at, steps_of}
use Rattle.step_functions.specs.inside.Edits.{with_slope, SameSteps, AreLevelled, IsSteeper}
use Rattle.step_functions.specs.inside.Kept.{HaveSteps}
use Rattle.step_functions.proofs.RunSteps.{steps-cons, steps-append, slope-first, slope-later, slope-append_left, slope-append_right, slope-run, around}

-- ---- the same steps behind other runs
-- a step lies in the first part of a list, or so many behind it
split_at : (n k : ℕ) (P : ℕ → Type 0) → (k < n → P k) → ((j : ℕ) → P (n + j)) → P k
split_at n k P before after = ⊎_elim before (λ (more : n ≤ k). subst P (omega arith) (after (k - n))) (cases_lt k n)

pub same-behind : (xs ys zs : List Run) → SameSteps ys zs → SameSteps (xs ++ ys) (xs ++ zs)
same-behind xs ys zs same = record {
  count = steps-append xs zs ∙ ap (λ n. steps_of xs + n) same.count ∙ sym (steps-append xs ys);
  slopes = λ k. split_at (steps_of xs) k (λ k. slope_at (xs ++ zs) k ≡ slope_at (xs ++ ys) k)
      (λ h. slope-append_left xs zs k h ∙ sym (slope-append_left xs ys k h))
      (λ j. slope-append_right xs zs j ∙ same.slopes j ∙ sym (slope-append_right xs ys j));
}

-- ---- a run made two
abbrev pub front_of : Run → ℕ → Run
front_of run n = record { length = n; slope = run.slope }

abbrev pub back_of : Run → ℕ → Run
back_of run n = record run { length = run.length - n }

halved : (run : Run) (n : ℕ) (rest : List Run) → n ≤ run.length → SameSteps (run ∷ rest) (front_of run n ∷ back_of run n ∷ rest)
halved run n rest h = grind (arith, ints, h)

pub record IsHalved (old new : List Run) (i n : ℕ) : Type 0 where
  pub same : SameSteps old new
  pub front : take i new ≡ take i old
  pub before : steps_of (take (i + 1) new) ≡ steps_of (take i old) + n
  pub lengths : HaveSteps new

pub halved-runs : (xs : List Run) (i n : ℕ) → i < length xs → 1 ≤ n → n < (run_of xs i).length → HaveSteps xs
    → IsHalved xs (take i xs ++ front_of (run_of xs i) n ∷ back_of (run_of xs i) n ∷ drop (i + 1) xs) i n
halved-runs xs i n h some rest lengths =
    let run = run_of xs i in
    let front = take i xs in
    let back = drop (i + 1) xs in
    let P : Run → Type 0 = λ run. 1 ≤ run.length in
    record {
      same = subst (λ ys. SameSteps ys (front ++ front_of run n ∷ back_of run n ∷ back)) (around xs i h)
          (same-behind front (run ∷ back) (front_of run n ∷ back_of run n ∷ back) (halved run n back (omega arith)));
      front = take_at front (front_of run n ∷ back_of run n ∷ back) i (length-take-le i xs (omega arith));
      before =
          ap steps_of
          (ap (take (i + 1)) (sym (append_assoc front (front_of run n ∷ []) (back_of run n ∷ back)))
          ∙ take_at (front ++ front_of run n ∷ []) (back_of run n ∷ back) (i + 1)
          (length_push front (front_of run n) ∙ ap (λ k. k + 1) (length-take-le i xs (omega arith))))
          ∙ sum_by_push (λ (x : Run). x.length) front (front_of run n);
      lengths = All-append P front (front_of run n ∷ back_of run n ∷ back) (All-take P i xs lengths)
          (All-cons P (front_of run n) (back_of run n ∷ back) some (All-cons P (back_of run n) back (omega arith) (All-drop P (i + 1) xs lengths)));
    }

-- what a write and an insert leave
pub halved-list : (xs : List Run) (i : ℕ) (a b : Run) → i < length xs → take i (set xs i b) ++ a ∷ drop i (set xs i b) ≡ take i xs ++ a ∷ b ∷ drop (i + 1) xs
halved-list xs i a b h = (λ t. take-set xs i b t ++ a ∷ drop-set xs i b h t)

pub halved-by : (xs new : List Run) (i n : ℕ) (a b : Run) → i < length xs → a ≡ get_or xs i a → b ≡ get_or xs i b
    → new ≡ take i (set xs i (record { length = a.length - n; slope = b.slope })) ++ (record { length = n; slope = a.slope }) ∷ drop i (set xs i (record { length = a.length - n; slope = b.slope }))
    → new ≡ take i xs ++ front_of (run_of xs i) n ∷ back_of (run_of xs i) n ∷ drop (i + 1) xs
halved-by xs new i n a b h first second is = grind (arith, ints, get_or_read, halved-list, h, first, second, is)

-- ---- a slope added to each of the runs
-- the step of the loop, at slopes that are written as their bits
pub steepened-more : (xs ys : List Run) (i : ℕ) (slope : ℤ) → i < length xs → All (λ run. unsigned_abs run.slope + unsigned_abs slope < 2 ^ 127) xs
    → ys ≡ map (with_slope slope) (take i xs) ++ drop i xs
    → set ys i (record { length = (run_of ys i).length; slope = to_z w128 (of_z w128 (to_z w128 (of_z w128 (run_of ys i).slope) +ℤ slope)) })
    ≡ map (with_slope slope) (take (i + 1) xs) ++ drop (i + 1) xs
steepened-more xs ys i slope h sizes is =
    let d : Run = record { length = 0; slope = pos 0 } in
    let front = map (with_slope slope) (take i xs) in
    let length_front : length front ≡ i = length-map (take i xs) (with_slope slope) ∙ length-take-le i xs (omega arith) in
    let length_ys : length ys ≡ length xs =
    ap length is ∙ length-append front (drop i xs) ∙ (λ t. length_front t + length-drop i xs t) ∙ omega arith in
    let read : run_of ys i ≡ run_of xs i =
    ap (λ zs. run_of zs i) (is ∙ ap (λ zs. front ++ zs) (drop_more xs i d h)) ∙ get_or_at front (run_of xs i) (drop (i + 1) xs) d i length_front in
    let size : unsigned_abs (run_of ys i).slope + unsigned_abs slope < 2 ^ 127 =
    subst (λ (run : Run). unsigned_abs run.slope + unsigned_abs slope < 2 ^ 127) (sym read) (sizes i d h) in
    let own : to_z w128 (of_z w128 (run_of ys i).slope) ≡ (run_of ys i).slope =
    to_z-of_z w128 (run_of ys i).slope (fits_signed_from_abs w128 (run_of ys i).slope (omega arith)) in
    let whole : to_z w128 (of_z w128 ((run_of ys i).slope +ℤ slope)) ≡ (run_of ys i).slope +ℤ slope =
    to_z-of_z w128 ((run_of ys i).slope +ℤ slope) (fits_signed_from_abs w128 ((run_of ys i).slope +ℤ slope) (omega (arith, ints))) in
    (λ t. set ys i (record { length = (run_of ys i).length; slope = (ap (λ z. to_z w128 (of_z w128 (z +ℤ slope))) own ∙ whole) t }))
    ∙ map_over_more (with_slope slope) xs ys i (run_of ys i) h is (get_or_default ys i d (run_of ys i) (omega arith))

pub steps-with_slope : (xs : List Run) (slope : ℤ) → steps_of (map (with_slope slope) xs) ≡ steps_of xs
steps-with_slope [] slope = refl
steps-with_slope (x ∷ xs) slope =
    steps-cons (with_slope slope x) (map (with_slope slope) xs) ∙ ap (λ n. x.length + n) (steps-with_slope xs slope) ∙ sym (steps-cons x xs)

pub slope-with_slope : (xs : List Run) (slope : ℤ) (k : ℕ) → k < steps_of xs → slope_at (map (with_slope slope) xs) k ≡ slope_at xs k +ℤ slope
slope-with_slope [] slope k h = absurd (omega arith)
slope-with_slope (x ∷ xs) slope k h =
    let count = steps-cons x xs in
    ⊎_elim
    (λ (less : k < x.length).
    slope-first (with_slope slope x) (map (with_slope slope) xs) k less ∙ ap (λ s. s +ℤ slope) (sym (slope-first x xs k less)))
    (λ (more : x.length ≤ k).
    slope-later (with_slope slope x) (map (with_slope slope) xs) k more
    ∙ slope-with_slope xs slope (k - x.length) (omega arith)
    ∙ ap (λ s. s +ℤ slope) (sym (slope-later x xs k more)))
    (cases_lt k x.length)

-- ---- level steps put in
-- a list that goes on from `before` with level steps in between
levelled : (xs ys zs : List Run) (n : ℕ) → steps_of zs ≡ n + steps_of ys → ((k : ℕ) → k < n → slope_at zs k ≡ pos 0)
    → ((k : ℕ) → slope_at zs (n + k) ≡ slope_at ys k) → AreLevelled (xs ++ ys) (xs ++ zs) (steps_of xs) n
levelled xs ys zs n count level back = grind (arith, ints, steps-append, slope-append_left, slope-append_right, count, level, back)

-- by a run of their own
pub levelled-insert : (xs ys : List Run) (n : ℕ) → AreLevelled (xs ++ ys) (xs ++ (record { length = n; slope = pos 0 }) ∷ ys) (steps_of xs) n
levelled-insert xs ys n =
    let run : Run = record { length = n; slope = pos 0 } in
    levelled xs ys (run ∷ ys) n (steps-cons run ys) (λ k h. slope-first run ys k h)
    (λ k. slope-later run ys (n + k) (omega arith) ∙ ap (slope_at ys) (omega arith))

-- by more steps of a level run
pub levelled-longer : (xs ys : List Run) (run : Run) (n : ℕ) → run.slope ≡ pos 0
    → AreLevelled (xs ++ run ∷ ys) (xs ++ (record run { length = run.length + n }) ∷ ys) (steps_of xs) n
levelled-longer xs ys run n level =
    let longer : Run = record run { length = run.length + n } in
    levelled xs (run ∷ ys) (longer ∷ ys) n
    (let a = steps-cons run ys in let b = steps-cons longer ys in omega arith)
    (λ k h. slope-first longer ys k (omega arith) ∙ level)
    (λ k.
    ⊎_elim
    (λ (less : k < run.length). slope-first longer ys (n + k) (omega arith) ∙ sym (slope-first run ys k less))
    (λ (more : run.length ≤ k).
    slope-later longer ys (n + k) (omega arith) ∙ ap (slope_at ys) (omega arith) ∙ sym (slope-later run ys k more))
    (cases_lt k run.length))

pub levelled-set : (xs : List Run) (i n : ℕ) (a : Run) → i < length xs → a ≡ get_or xs i a → a.slope ≡ pos 0
    → AreLevelled xs (set xs i (record { length = a.length + n; slope = a.slope })) (steps_of (take i xs)) n
levelled-set xs i n a h read level =
    let d : Run = record { length = 0; slope = pos 0 } in
    let same : a ≡ run_of xs i = get_or_read xs i a h read d in
    let next : suc i ≡ i + 1 = omega arith in
    subst (λ ys. AreLevelled ys (set xs i (record { length = a.length + n; slope = a.slope })) (steps_of (take i xs)) n)
    ((λ t. take i xs ++ same t ∷ drop (i + 1) xs) ∙ around xs i h)
    (subst (λ ys. AreLevelled (take i xs ++ a ∷ drop (i + 1) xs) ys (steps_of (take i xs)) n)
    ((λ t. take i xs ++ (record { length = a.length + n; slope = a.slope }) ∷ drop (sym next t) xs) ∙ sym (set_split xs i (record { length = a.length + n; slope = a.slope }) h))
    (levelled-longer (take i xs) (drop (i + 1) xs) a n level))

pub levelled-put : (xs ys : List Run) (i n : ℕ) → ys ≡ take i xs ++ (record { length = n; slope = pos 0 }) ∷ drop i xs
    → AreLevelled xs ys (steps_of (take i xs)) n
levelled-put xs ys i n is =
    subst (λ zs. AreLevelled zs ys (steps_of (take i xs)) n) (take-append-drop i xs)
    (subst (λ zs. AreLevelled (take i xs ++ drop i xs) zs (steps_of (take i xs)) n) (sym is) (levelled-insert (take i xs) (drop i xs) n))

pub have_steps-put : (xs ys : List Run) (i n : ℕ) → 1 ≤ n → HaveSteps xs → ys ≡ take i xs ++ (record { length = n; slope = pos 0 }) ∷ drop i xs → HaveSteps ys
have_steps-put xs ys i n some lengths is =
    let P : Run → Type 0 = λ run. 1 ≤ run.length in
    let run : Run = record { length = n; slope = pos 0 } in
    subst HaveSteps (sym is) (All-append P (take i xs) (run ∷ drop i xs) (All-take P i xs lengths) (All-cons P run (drop i xs) some (All-drop P i xs lengths)))

-- ---- a slope added to some steps
pub steeper-mid : (xs ys zs : List Run) (slope : ℤ) → IsSteeper (xs ++ (ys ++ zs)) (xs ++ (map (with_slope slope) ys ++ zs)) (steps_of xs) (steps_of ys) slope
steeper-mid xs ys zs slope =
    let us = map (with_slope slope) ys in
    let same : steps_of us ≡ steps_of ys = steps-with_slope ys slope in
    let old_rest = steps-append ys zs in
    let new_rest = steps-append us zs in
    let old_total = steps-append xs (ys ++ zs) in
    let new_total = steps-append xs (us ++ zs) in
    record {
      total = omega arith;
      front = λ k h. slope-append_left xs (us ++ zs) k h ∙ sym (slope-append_left xs (ys ++ zs) k h);
      part = λ k h.
          slope-append_right xs (us ++ zs) k
          ∙ slope-append_left us zs k (omega arith)
          ∙ slope-with_slope ys slope k h
          ∙ ap (λ s. s +ℤ slope) (sym (slope-append_left ys zs k h) ∙ sym (slope-append_right xs (ys ++ zs) k));
      back = λ k.
          ap (slope_at (xs ++ (us ++ zs))) (omega arith)
          ∙ slope-append_right xs (us ++ zs) (steps_of us + k)
          ∙ slope-append_right us zs k
          ∙ sym (slope-append_right ys zs k)
          ∙ sym (slope-append_right xs (ys ++ zs) (steps_of ys + k))
          ∙ ap (slope_at (xs ++ (ys ++ zs))) (omega arith);
    }

-- runs with steps: the slope of each is that of its first step
pub run-slope : (runs : List Run) (i : ℕ) → i < length runs → HaveSteps runs → (run_of runs i).slope ≡ slope_at runs (steps_of (take i runs))
run-slope runs i h lengths =
    let some = lengths i (record { length = 0; slope = pos 0 }) h in
    sym (slope-run runs i 0 h (omega arith)) ∙ ap (slope_at runs) (omega arith)
