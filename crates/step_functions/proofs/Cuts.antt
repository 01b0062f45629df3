-- A function cut to some of its places, and the sum of two.
use Rattle.std.proofs.Common.{◌≡◌, ℕ, ◌+◌, ◌<◌, ◌≤◌, List, take, drop, refl, sym, ap, subst, ◌∙◌, arith, ℤ, pos, ◌+ℤ◌}
use Rattle.std.proofs.lemmas.Int.{ints}
use Rattle.std.proofs.lemmas.List.{take-append-drop}
use Rattle.std.proofs.lemmas.List.Elements.{All-take, All-drop}
use Rattle.uc_model.proofs.Common.{linear, add-zero, sum_below-same, sum_below-add}
use Rattle.step_functions.specs.Runs.{Run, slope_at, steps_of}
use Rattle.step_functions.specs.Functions.{Steps, IsPlace, IsSmall, value_at, last_place}
use Rattle.step_functions.specs.inside.Edits.{SameSteps, AreAdded}
use Rattle.step_functions.specs.inside.Kept.{height, AreRising, HaveSteps, IsKept}
use Rattle.step_functions.proofs.RunSteps.{steps-take-drop, slope-append_left}
use Rattle.step_functions.proofs.RunSums.{slope-behind}
use Rattle.step_functions.proofs.Heights.{height-split}
use Rattle.step_functions.proofs.Values.{IsMadeOf, made-in_place, kept-made, values-made, steps_between, steps-within, place-steps, value_at-place}

-- nothing besides
abbrev pub nothing : ℤ → ℤ
nothing p = pos 0

values-same : (f g : Steps) (a : ℕ) → IsMadeOf f g a nothing → (p : ℤ) → IsPlace g p → value_at g p ≡ value_at f p
values-same f g a made p place = values-made f g a nothing made p place ∙ add-zero (value_at f p)

-- of the value behind the fields, and of what is written
pub told-same : (f g old new : Steps) (a : ℕ) → f ≡ old → new ≡ g → IsMadeOf f g a nothing → (p : ℤ) → IsPlace new p → value_at new p ≡ value_at old p
told-same f g old new a same written made = grind (arith, ints, values-same, same, written, made)

kept-value : (f : Steps) → IsKept f → (p : ℤ) → IsPlace f p → IsSmall (value_at f p +ℤ pos 0)
kept-value f kept p place =
    let k = steps_between f.first p in
    subst IsSmall (sym (value_at-place f p k (place-steps f p place)) ∙ sym (add-zero (value_at f p))) (kept.values k (steps-within f p place))

-- ---- cut on the right
pub record IsCutRight (f : Steps) (divided : List Run) (count kept : ℕ) : Type 0 where
  pub same : SameSteps f.runs divided
  pub lengths : HaveSteps divided
  pub begins : steps_of (take count divided) ≡ kept

right_slope : (f : Steps) (divided : List Run) (count kept : ℕ) → IsCutRight f divided count kept → (k : ℕ) → k < kept → slope_at (take count divided) k ≡ slope_at f.runs k
right_slope f divided count kept is k h =
    sym (slope-append_left (take count divided) (drop count divided) k (omega (arith, is.begins)))
    ∙ ap (λ xs. slope_at xs k) (take-append-drop count divided)
    ∙ is.same.slopes k

right_within : (f : Steps) (divided : List Run) (count kept : ℕ) → IsCutRight f divided count kept → kept ≤ steps_of f.runs
right_within f divided count kept is = omega (arith, is.begins, is.same.count, steps-take-drop divided count)

abbrev pub cut_right : Steps → List Run → ℕ → ℕ → Steps
cut_right f divided count room = record f { runs = take count divided; room = room }

pub right-made : (f : Steps) (divided : List Run) (count kept room : ℕ) → IsCutRight f divided count kept → IsMadeOf f (cut_right f divided count room) 0 nothing
right-made f divided count kept room is =
    made-in_place f (cut_right f divided count room) nothing refl (omega (arith, is.begins, right_within f divided count kept is)) (λ k h.
    ap (λ x. f.value +ℤ x) (sum_below-same k (slope_at (take count divided)) (slope_at f.runs) (λ j l. right_slope f divided count kept is j (omega (arith, is.begins))))
    ∙ sym (add-zero (height f.value f.runs k)))

pub right-kept : (f : Steps) (divided : List Run) (count kept room : ℕ) → IsCutRight f divided count kept → IsKept f → IsKept (cut_right f divided count room)
right-kept f divided count kept room is lawful =
    let P : Run → Type 0 = λ run. 1 ≤ run.length in
    let within = right_within f divided count kept is in
    let begins = is.begins in
    kept-made f (cut_right f divided count room) 0 nothing lawful (right-made f divided count kept room is) (All-take P count divided is.lengths)
    (λ j k h l.
    let a = right_slope f divided count kept is j (omega arith) in
    let b = right_slope f divided count kept is k (omega arith) in
    let up = lawful.rising j k h (omega arith) in
    omega (arith, linear))
    (λ p place own. kept-value f lawful p place)

-- ---- cut on the left
pub record IsCutLeft (f : Steps) (divided : List Run) (count skipped : ℕ) (low v : ℤ) : Type 0 where
  pub same : SameSteps f.runs divided
  pub lengths : HaveSteps divided
  pub begins : steps_of (take count divided) ≡ skipped
  pub first : low ≡ f.first +ℤ pos skipped
  pub value : v ≡ height f.value f.runs skipped

abbrev pub cut_left : Steps → List Run → ℕ → ℤ → ℤ → ℕ → Steps
cut_left f divided count low v room = record f { first = low; value = v; runs = drop count divided; room = room }

left_slope : (f : Steps) (divided : List Run) (count skipped : ℕ) (low v : ℤ) → IsCutLeft f divided count skipped low v → (k : ℕ)
    → slope_at (drop count divided) k ≡ slope_at f.runs (skipped + k)
left_slope f divided count skipped low v is k = grind (arith, ints, slope-behind, is)

left_count : (f : Steps) (divided : List Run) (count skipped : ℕ) (low v : ℤ) → IsCutLeft f divided count skipped low v → skipped + steps_of (drop count divided) ≡ steps_of f.runs
left_count f divided count skipped low v is = omega (arith, is.begins, is.same.count, steps-take-drop divided count)

pub left-last : (f : Steps) (divided : List Run) (count skipped : ℕ) (low v : ℤ) (room : ℕ) → IsCutLeft f divided count skipped low v
    → last_place (cut_left f divided count low v room) ≡ last_place f
left-last f divided count skipped low v room is = let total = left_count f divided count skipped low v is in let first = is.first in omega (arith, ints)

pub left-made : (f : Steps) (divided : List Run) (count skipped : ℕ) (low v : ℤ) (room : ℕ) → IsCutLeft f divided count skipped low v
    → IsMadeOf f (cut_left f divided count low v room) skipped nothing
left-made f divided count skipped low v room is = record {
  first = is.first;
  within = omega (arith, left_count f divided count skipped low v is);
  heights = λ k h.
      let whole = height-split f.value f.runs skipped k in
      let same = sum_below-same k (slope_at (drop count divided)) (λ j. slope_at f.runs (skipped + j)) (λ j l. left_slope f divided count skipped low v is j) in
      let value = is.value in
      omega (arith, linear);
}

pub left-kept : (f : Steps) (divided : List Run) (count skipped : ℕ) (low v : ℤ) (room : ℕ) → IsCutLeft f divided count skipped low v → IsKept f
    → IsKept (cut_left f divided count low v room)
left-kept f divided count skipped low v room is lawful =
    let P : Run → Type 0 = λ run. 1 ≤ run.length in
    let total = left_count f divided count skipped low v is in
    kept-made f (cut_left f divided count low v room) skipped nothing lawful (left-made f divided count skipped low v room is) (All-drop P count divided is.lengths)
    (λ j k h l.
    let a = left_slope f divided count skipped low v is j in
    let b = left_slope f divided count skipped low v is k in
    let up = lawful.rising (skipped + j) (skipped + k) (omega arith) (omega arith) in
    omega (arith, linear))
    (λ p place own. kept-value f lawful p place)

-- ---- the sum, where the other one has each place
pub record IsAddedOn (f other : Steps) (runs : List Run) (skipped : ℕ) (v : ℤ) : Type 0 where
  pub first : f.first ≡ other.first +ℤ pos skipped
  pub within : skipped + steps_of f.runs ≤ steps_of other.runs
  pub value : v ≡ f.value +ℤ value_at other f.first
  pub added : AreAdded f.runs other.runs runs skipped

pub sum-made : (f other : Steps) (runs : List Run) (skipped : ℕ) (v : ℤ) (room : ℕ) → IsAddedOn f other runs skipped v
    → IsMadeOf f (record f { value = v; runs = runs; room = room }) 0 (value_at other)
sum-made f other runs skipped v room is =
    let total = is.added.count in
    made-in_place f (record f { value = v; runs = runs; room = room }) (value_at other) refl (omega arith) (λ k h.
    let own = slope_at f.runs in
    let others = λ (j : ℕ). slope_at other.runs (skipped + j) in
    let first = is.first in
    let there : f.first +ℤ pos k ≡ other.first +ℤ pos (skipped + k) = omega (arith, ints) in
    let reached = value_at-place other (f.first +ℤ pos k) (skipped + k) there in
    let begun = value_at-place other f.first skipped first in
    let whole = height-split other.value other.runs skipped k in
    let steps = sum_below-same k (slope_at runs) (λ j. own j +ℤ others j) (λ j l. is.added.slopes j (omega arith)) ∙ sum_below-add k own others in
    let value = is.value in
    omega (arith, linear))

pub sum-kept : (f other : Steps) (runs : List Run) (skipped : ℕ) (v : ℤ) (room : ℕ) → IsAddedOn f other runs skipped v → IsKept f → AreRising other.runs → HaveSteps runs
    → ((p : ℤ) → IsPlace f p → IsSmall (value_at f p +ℤ value_at other p)) → IsKept (record f { value = v; runs = runs; room = room })
sum-kept f other runs skipped v room is kept rising lengths small =
    let total = is.added.count in
    let within = is.within in
    kept-made f (record f { value = v; runs = runs; room = room }) 0 (value_at other) kept (sum-made f other runs skipped v room is) lengths
    (λ j k h l.
    let a = is.added.slopes j (omega arith) in
    let b = is.added.slopes k (omega arith) in
    let up = kept.rising j k h (omega arith) in
    let other_up = rising (skipped + j) (skipped + k) (omega arith) (omega arith) in
    omega (arith, linear))
    (λ p place own. small p place)
