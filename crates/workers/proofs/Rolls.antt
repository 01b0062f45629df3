-- The steps of a roll, from what the calls of a step give.
use Rattle.std.proofs.Common.{◌≡◌, false, suc, ◌+◌, ◌<◌, sym, subst, arith, length, Result, Ok, Err, IfOk}
use Rattle.uc_model.specs.Prelude.{IsLawfulInstance}
use Rattle.branch_tree.specs.declared.found.Found.{Found}
use Rattle.roll.specs.Prelude.{IsKept, IsNextWindow, IsNextPlace, IsRolledSoFar, IsContinuation, IsStitched}
use Rattle.roll.specs.declared.places.Place.{Place}
use Rattle.roll.proofs.SoFar.{continuation, further, place_within}
use Rattle.uc_model.specs.declared.instance.Instance.{Instance}
use Rattle.uc_model.specs.declared.schedule.Printed.{Printed}
use Rattle.found_schedule.proofs.Whole.{accepted_if_found}
use Rattle.search_answers.specs.Writable.{IsWritable}
use Rattle.workers.specs.declared.rolling.Kept.{Kept}
use Rattle.workers.specs.declared.rolling.Plan.{Plan}
use Rattle.workers.specs.inside.Rolls.{IsFoundAhead, IsKeptSoFar, IsPlan, IsShownAhead, MayFind}

pub found_ahead : {E : Type 0} (plan : Plan) (kept : Kept) (place : Place) (ahead : Instance) (result : Result Found E)
    → IsNextWindow plan.instance.now kept.schedule kept.done place.len ahead → IsLawfulInstance ahead → IfOk result (MayFind plan ahead)
    → plan.options.now.pivot ≡ false → IfOk result (IsWritable plan.options.now.pivot ahead) → IfOk result (IsFoundAhead plan kept place)
found_ahead plan kept place ahead (Ok found) next lawful search whole writable = record {
  ahead = ahead;
  next = next;
  lawful = lawful;
  search = search;
  accepted = accepted_if_found plan.options.now.pivot ahead found.schedule whole writable.schedule;
}
found_ahead plan kept place ahead (Err e) next lawful search whole writable = tt

-- ---- one more window
-- what is kept has as many periods as its row of unserved demand
rows_done : (plan : Plan) (kept : Kept) → IsKeptSoFar plan kept → length kept.schedule.shed ≡ kept.done
rows_done plan kept is = is.kept.shape.shed

pub kept_rows : (plan : Plan) (kept : Kept) → IsKeptSoFar plan kept → IsKept plan.instance.now (length kept.schedule.shed) kept.schedule
kept_rows plan kept is = subst (λ n. IsKept plan.instance.now n kept.schedule) (sym (rows_done plan kept is)) is.kept

pub goes_on : (plan : Plan) (kept : Kept) (place : Place) (shown : Printed) → IsPlan plan → IsKeptSoFar plan kept
    → kept.done < plan.instance.now.periods → IsNextPlace plan.instance.now.periods plan.window plan.step kept.done place
    → IsShownAhead plan kept place shown → IsContinuation plan.instance.now kept.schedule (length kept.schedule.shed) place.keep shown
goes_on plan kept place shown ok is left at seen =
    let found = seen.is_found in
    subst (λ n. IsContinuation plan.instance.now kept.schedule n place.keep shown) (sym (rows_done plan kept is))
    (continuation plan.instance.now plan.window plan.step kept.done place kept.schedule shown found.ahead seen.cost ok.window ok.step left at
    found.next found.lawful seen.accepted)

pub one_more : (plan : Plan) (kept : Kept) (place : Place) (shown schedule : Printed) → IsPlan plan → IsKeptSoFar plan kept
    → kept.done < plan.instance.now.periods → IsNextPlace plan.instance.now.periods plan.window plan.step kept.done place
    → IsShownAhead plan kept place shown → IsStitched plan.instance.now (length kept.schedule.shed) place.keep kept.schedule shown schedule
    → IsKept plan.instance.now (length kept.schedule.shed + place.keep) schedule
    → IsKeptSoFar plan (record { schedule = schedule; done = kept.done + place.keep; windows = kept.windows + 1 })
one_more plan kept place shown schedule ok is left at seen stitched whole =
    let instance = plan.instance.now in
    let rows = rows_done plan kept is in
    let found = seen.is_found in
    let count : suc kept.windows ≡ kept.windows + 1 = omega arith in
    subst (λ n. IsRolledSoFar (MayFind plan) instance plan.window plan.step (kept.done + place.keep) n schedule) count
    (further (MayFind plan) instance plan.window plan.step kept.done kept.windows place kept.schedule schedule ok.window ok.step left is at
    (record {
      ahead = found.ahead;
      next = found.next;
      found = seen.found;
      search = found.search;
      shown = shown;
      cost = seen.cost;
      is_shown = seen.is_shown;
      is_stitched = subst (λ n. IsStitched instance n place.keep kept.schedule shown schedule) rows stitched;
      is_kept = subst (λ n. IsKept instance (n + place.keep) schedule) rows whole;
    }))

pub one_kept : (plan : Plan) (kept : Kept) (place : Place) → IsPlan plan → kept.done < plan.instance.now.periods
    → IsNextPlace plan.instance.now.periods plan.window plan.step kept.done place → kept.done < kept.done + place.keep
one_kept plan kept place ok left at =
    let within = place_within plan.instance.now.periods plan.window plan.step kept.done place left ok.window ok.step at in
    omega (arith, within.some)
