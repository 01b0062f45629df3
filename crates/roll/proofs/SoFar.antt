-- How a roll goes on: from what is rolled so far, by the place of the next window and what its search finds.
use Rattle.std.proofs.Common.{◌≡◌, ℕ, suc, ◌+◌, ◌-◌, ◌<◌, ◌≤◌, ⊎_elim, refl, subst, ◌∙◌, arith, ℤ, Some, None}
use Rattle.std.proofs.lemmas.Bool.{cases_lt}
use Rattle.uc_model.specs.Prelude.{IsLawfulInstance}
use Rattle.schedule_check.specs.Accepted.{IsAccepted}
use Rattle.roll.specs.Prelude.{IsKept, IsNextWindow, IsContinuation, IsStitched, Found, Instance, Place, Printed, AreAllRolled, AreRolled, IsNextPlace, IsRolledSoFar, IsRolledWindow, IsStoppedRoll, IsWholeRoll, pace, periods_before}
use Rattle.roll.proofs.KeptWindows.{AreSame, next_again, stitched_same, stitched_shown}

-- ---- the place
-- the next window is within the periods, and at least one of its own is kept
pub record IsWithin (periods done : ℕ) (place : Place) : Type 0 where
  pub some : 1 ≤ place.keep
  pub part : place.keep ≤ place.len
  pub within : done + place.len ≤ periods

pub place_within : (periods window step done : ℕ) (place : Place) → done < periods → 1 ≤ window → 1 ≤ step
    → IsNextPlace periods window step done place → IsWithin periods done place
place_within periods window step done place left wide long is = grind (arith, left, wide, long, is)

-- ---- the windows
-- a window that is rolled stays so when more is stitched behind
window_again : (MayFind : Instance → Found → Type 0) (instance : Instance) (m : ℕ) (old new : Printed) (start len keep : ℕ)
    → AreSame instance m old new → start + keep ≤ m → IsRolledWindow MayFind instance old start len keep
    → IsRolledWindow MayFind instance new start len keep
window_again MayFind instance m old new start len keep same within is = grind (arith, same, within, is)

-- each of the first n windows ends before the periods behind them
ends_before : (window step n j : ℕ) → j < n → periods_before window step j + pace window step ≤ periods_before window step n
ends_before window step n j h = grind arith

rolled_again : (MayFind : Instance → Found → Type 0) (instance : Instance) (window step done n : ℕ) (old new : Printed)
    → done ≡ periods_before window step n → AreSame instance done old new → AreRolled MayFind instance window step n old
    → AreRolled MayFind instance window step n new
rolled_again MayFind instance window step done n old new is same rolled = record {
  before = rolled.before;
  each = λ j h.
      window_again MayFind instance done old new (periods_before window step j) window (pace window step) same
      (omega (arith, is, ends_before window step n j h)) (rolled.each j h);
}

-- ---- one more window
-- its schedule, stitched behind what is kept
pub record IsFurther (MayFind : Instance → Found → Type 0) (instance : Instance) (done : ℕ) (place : Place) (kept stitched : Printed) : Type 0 where
  pub ahead : Instance
  pub next : IsNextWindow instance kept done place.len ahead
  pub found : Found
  pub search : MayFind ahead found
  pub shown : Printed
  pub cost : ℤ
  pub is_shown : found.schedule ≡ Some (shown, cost)
  pub is_stitched : IsStitched instance done place.keep kept shown stitched
  pub is_kept : IsKept instance (done + place.keep) stitched

own_window : (MayFind : Instance → Found → Type 0) (instance : Instance) (done : ℕ) (place : Place) (kept stitched : Printed)
    → IsKept instance done kept → IsFurther MayFind instance done place kept stitched
    → IsRolledWindow MayFind instance stitched done place.len place.keep
own_window MayFind instance done place kept stitched is more = record {
  window = more.ahead;
  next = next_again instance done kept stitched done place.len more.ahead
      (stitched_same instance done place.keep kept more.shown stitched is more.is_stitched) (omega arith) more.next;
  found = more.found;
  search = more.search;
  shown = more.shown;
  cost = more.cost;
  is_shown = more.is_shown;
  kept = stitched_shown instance done place.keep kept more.shown stitched is more.is_stitched;
}

-- a window that doesn't reach the last period
more_rolled : (MayFind : Instance → Found → Type 0) (instance : Instance) (window step done windows : ℕ) (place : Place) (kept stitched : Printed)
    → done < instance.periods → IsRolledSoFar MayFind instance window step done windows kept → IsNextPlace instance.periods window step done place
    → IsFurther MayFind instance done place kept stitched → done + place.len < instance.periods
    → AreRolled MayFind instance window step (suc windows) stitched
more_rolled MayFind instance window step done windows place kept stitched left is at more short =
    let here = is.place left in
    let len : place.len ≡ window = omega (arith, at.reach, short) in
    let keep = at.others short in
    let same = stitched_same instance done place.keep kept more.shown stitched is.kept more.is_stitched in
    let old = rolled_again MayFind instance window step done windows kept stitched here same (is.going left) in
    let own : IsRolledWindow MayFind instance stitched (periods_before window step windows) window (pace window step) =
    subst (λ k. IsRolledWindow MayFind instance stitched (periods_before window step windows) window k) keep
    (subst (λ n. IsRolledWindow MayFind instance stitched (periods_before window step windows) n place.keep) len
    (subst (λ s. IsRolledWindow MayFind instance stitched s place.len place.keep) here (own_window MayFind instance done place kept stitched is.kept more))) in
    record {
      before = λ j h. grind (arith, cases_lt, j, windows, old, h, window, step, instance, here, len, short);
      each = λ j h. grind (arith, cases_lt, j, windows, old, h, MayFind, instance, stitched, window, step, own);
    }

-- a window that reaches the last period
all_rolled : (MayFind : Instance → Found → Type 0) (instance : Instance) (window step done windows : ℕ) (place : Place) (kept stitched : Printed)
    → done < instance.periods → IsRolledSoFar MayFind instance window step done windows kept → IsNextPlace instance.periods window step done place
    → IsFurther MayFind instance done place kept stitched → done + place.len ≡ instance.periods
    → AreAllRolled MayFind instance window step (suc windows) stitched
all_rolled MayFind instance window step done windows place kept stitched left is at more all =
    let here = is.place left in
    let len : place.len ≡ instance.periods - done = omega (arith, all) in
    let keep : place.keep ≡ instance.periods - done = at.last all ∙ len in
    let same = stitched_same instance done place.keep kept more.shown stitched is.kept more.is_stitched in
    record {
      before = windows;
      number = refl;
      others = rolled_again MayFind instance window step done windows kept stitched here same (is.going left);
      start = done;
      is_start = here;
      some = left;
      reach = omega (arith, at.reach, all);
      last = subst (λ k. IsRolledWindow MayFind instance stitched done (instance.periods - done) k) keep
          (subst (λ n. IsRolledWindow MayFind instance stitched done n place.keep) len
          (own_window MayFind instance done place kept stitched is.kept more));
    }

-- the place behind a window that doesn't reach the last period
place_behind : (window step done windows : ℕ) (place : Place) → done ≡ periods_before window step windows → place.keep ≡ pace window step
    → done + place.keep ≡ periods_before window step (suc windows)
place_behind window step done windows place here keep = grind (arith, here)

pub further : (MayFind : Instance → Found → Type 0) (instance : Instance) (window step done windows : ℕ) (place : Place) (kept stitched : Printed)
    → 1 ≤ window → 1 ≤ step → done < instance.periods → IsRolledSoFar MayFind instance window step done windows kept
    → IsNextPlace instance.periods window step done place → IsFurther MayFind instance done place kept stitched
    → IsRolledSoFar MayFind instance window step (done + place.keep) (suc windows) stitched
further MayFind instance window step done windows place kept stitched wide long left is at more =
    let within = place_within instance.periods window step done place left wide long at in
    let shorter : done + place.keep < instance.periods → done + place.len < instance.periods = λ less. ⊎_elim
    (λ (short : done + place.len < instance.periods). short)
    (λ (all : instance.periods ≤ done + place.len).
    let keep = at.last (omega (arith, all, within.within)) in
    omega (arith, keep, less))
    (cases_lt (done + place.len) instance.periods) in
    record {
      kept = more.is_kept;
      categories = more.is_stitched.categories;
      few = omega (arith, is.few, within.some);
      place = λ less. place_behind window step done windows place (is.place left) (at.others (shorter less));
      going = λ less. more_rolled MayFind instance window step done windows place kept stitched left is at more (shorter less);
      ended = λ all. all_rolled MayFind instance window step done windows place kept stitched left is at more
          (omega (arith, all, within.part, within.within));
    }

-- ---- where it ends
pub whole : (MayFind : Instance → Found → Type 0) (instance : Instance) (window step done windows : ℕ) (kept : Printed) (cost : ℤ)
    → IsRolledSoFar MayFind instance window step done windows kept → done ≡ instance.periods → IsAccepted instance kept cost
    → IsWholeRoll MayFind instance window step kept cost windows
whole MayFind instance window step done windows kept cost is all accepted = grind (arith, is, all, accepted)

pub stopped : (MayFind : Instance → Found → Type 0) (instance : Instance) (window step done windows number to : ℕ) (place : Place) (kept : Printed)
    (ahead : Instance) (found : Found) → done < instance.periods → IsRolledSoFar MayFind instance window step done windows kept
    → IsNextPlace instance.periods window step done place → IsNextWindow instance kept done place.len ahead → IsLawfulInstance ahead
    → MayFind ahead found → found.schedule ≡ None → number ≡ suc windows → to ≡ done + place.len
    → IsStoppedRoll MayFind instance window step number place.from to kept found
stopped MayFind instance window step done windows number to place kept ahead found left is at next lawful search none count end =
    grind (arith, left, is, at, next, lawful, search, none, count, end)

-- the next window's schedule goes on from what is kept
pub continuation : (instance : Instance) (window step done : ℕ) (place : Place) (kept shown : Printed) (ahead : Instance) (cost : ℤ)
    → 1 ≤ window → 1 ≤ step → done < instance.periods → IsNextPlace instance.periods window step done place
    → IsNextWindow instance kept done place.len ahead → IsLawfulInstance ahead → IsAccepted ahead shown cost
    → IsContinuation instance kept done place.keep shown
continuation instance window step done place kept shown ahead cost wide long left at next lawful accepted =
    grind (arith, wide, long, left, at, next, lawful, accepted)
