-- Runs to whose steps those of other runs are added, one of the others after another.
use Rattle.std.proofs.Common.{◌≡◌, ℕ, ◌+◌, ◌-◌, ◌<◌, ◌≤◌, ◌^◌, min, ⊎_elim, List, length, take, drop, sym, ap, subst, ◌∙◌, arith, pos, ◌+ℤ◌, unsigned_abs}
use Rattle.std.proofs.lemmas.Bool.{cases_lt}
use Rattle.std.proofs.lemmas.List.{take-append-drop}
use Rattle.step_functions.specs.Runs.{Run, run_of, slope_at, steps_of}
use Rattle.step_functions.specs.inside.Edits.{IsSteeper, AreAdded}
use Rattle.step_functions.specs.inside.Kept.{HaveSteps, HaveSmallSlopes}
pub use Rattle.step_functions.specs.declared.runs.Place.{Place}
use Rattle.step_functions.proofs.RunSteps.{steps-take-more, steps-take-drop, steps-within, slope-run, slope-append_right}
use Rattle.step_functions.proofs.RunEdits.{run-slope}

-- the others before the one of this number are added, up to the run `from`; `rest` steps are left, to the first of which that
-- of the other goes which stands behind `used` ones of its run
pub record IsAddedTo (old others now : List Run) (skipped used from rest number : ℕ) : Type 0 where
  pub lengths : HaveSteps now
  pub total : steps_of now ≡ steps_of old
  pub within : from ≤ length now
  pub done : steps_of (take from now) + rest ≡ steps_of old
  pub place : 0 < rest → steps_of (take number others) + used ≡ skipped + steps_of (take from now)
  pub left : number < length others → used < (run_of others number).length
  pub front : (k : ℕ) → k < steps_of (take from now) → slope_at now k ≡ slope_at old k +ℤ slope_at others (skipped + k)
  pub back : (k : ℕ) → steps_of (take from now) ≤ k → slope_at now k ≡ slope_at old k
  pub count : length now ≤ length old + number

-- what the next step of the loop wants
pub fits-rest : (old others now : List Run) (skipped used from rest number : ℕ) → IsAddedTo old others now skipped used from rest number
    → rest ≡ steps_of (drop from now)
fits-rest old others now skipped used from rest number is = grind (arith, steps-take-drop, is)

pub small-slopes : (old others now : List Run) (skipped used from rest number : ℕ) → IsAddedTo old others now skipped used from rest number
    → number < length others → HaveSteps others → HaveSmallSlopes old → HaveSmallSlopes others
    → (k : ℕ) → k < rest → unsigned_abs (slope_at now (steps_of (take from now) + k)) + unsigned_abs (run_of others number).slope < 2 ^ 127
small-slopes old others now skipped used from rest number is h lengths small other_small k inside =
    grind (arith, steps-within, run-slope, is, h, lengths, small, other_small, inside)

pub added-more : (old others now new : List Run) (skipped used from to rest number length : ℕ) → IsAddedTo old others now skipped used from rest number
    → number < Rattle.std.proofs.Common.length others → HaveSteps others
    → length ≡ min rest ((run_of others number).length - used)
    → to ≤ Rattle.std.proofs.Common.length new → steps_of (take to new) ≡ steps_of (take from now) + length
    → IsSteeper now new (steps_of (take from now)) length (run_of others number).slope → HaveSteps new
    → Rattle.std.proofs.Common.length new ≤ Rattle.std.proofs.Common.length now + 1
    → IsAddedTo old others new skipped 0 to (rest - length) (number + 1)
added-more old others now new skipped used from to rest number length is h other_lengths least within begins steeper lengths one =
    let before = steps_of (take from now) in
    let next = steps-take-more others number h in
    let used_left = is.left h in
    record {
      lengths = lengths;
      total = steeper.total ∙ is.total;
      within = within;
      done = omega (arith, is.done);
      place = λ some. omega (arith, is.place (omega arith));
      left = λ more. other_lengths (number + 1) (record { length = 0; slope = pos 0 }) more;
      front = λ k inside.
          ⊎_elim
          (λ (less : k < before). steeper.front k less ∙ is.front k less)
          (λ (more : before ≤ k).
          let j = k - before in
          let at : before + j ≡ k = omega arith in
          let place = is.place (omega arith) in
          let there : steps_of (take number others) + (used + j) ≡ skipped + k = omega arith in
          subst (λ i. slope_at new i ≡ slope_at old i +ℤ slope_at others (skipped + k)) at
          (steeper.part j (omega arith)
          ∙ (λ t. is.back (before + j) (omega arith) t +ℤ (sym (slope-run others number (used + j) h (omega arith)) ∙ ap (slope_at others) there) t)))
          (cases_lt k before);
      back = λ k past.
          let at : before + length + (k - (before + length)) ≡ k = omega arith in
          subst (λ i. slope_at new i ≡ slope_at now i) at (steeper.back (k - (before + length))) ∙ is.back k (omega arith);
      count = omega (arith, is.count);
    }

-- ---- the others from a step on
pub slope-behind : (others : List Run) (i k : ℕ) → slope_at (drop i others) k ≡ slope_at others (steps_of (take i others) + k)
slope-behind others i k =
    sym (slope-append_right (take i others) (drop i others) k) ∙ ap (λ xs. slope_at xs (steps_of (take i others) + k)) (take-append-drop i others)

pub small-behind : (others : List Run) (i : ℕ) → HaveSmallSlopes others → HaveSmallSlopes (drop i others)
small-behind others i small k h = grind (arith, steps-take-drop, slope-behind, small, k, h)

pub added-behind : (old others new : List Run) (skipped i offset : ℕ) → steps_of (take i others) + offset ≡ skipped
    → AreAdded old (drop i others) new offset → AreAdded old others new skipped
added-behind old others new skipped i offset at added = grind (arith, slope-behind, at, added)
