-- The window is the next one, so its dispatch goes on from what is kept.
use Rattle.std.proofs.Common.{◌≡◌, ◌+◌, ◌-◌, List, IfOk, Result, Ok, Err, subst, arith}
use Rattle.uc_model.specs.Prelude.{HasShapeOf}
use Rattle.uc_model.specs.declared.pattern.Pattern.{Pattern}
use Rattle.schedule_check.specs.PlainNumbers.{HasPlainNumbers}
use Rattle.roll.specs.Left.{Instance, Printed, IsCarried}
use Rattle.roll.specs.NextWindow.{IsWindow}
use Rattle.roll.specs.Kept.{PrintedObeys}
use Rattle.roll.specs.Stitched.{IsContinuation}
use Rattle.dispatch_repair.specs.Stuck.{IsDispatchOf}
use Rattle.dispatch_repair.specs.declared.schedule.DispatchFault.{DispatchFault}
use Rattle.number_cases.proofs.rolling.next_shown.Goals as goal

-- what holds of a schedule that is dispatched
if_dispatched : (window : Instance) (Q : Printed → Type 0) (patterns : List Pattern) (outcome : Result Printed DispatchFault) → IfOk outcome (PrintedObeys window)
    → IfOk outcome (HasShapeOf window) → IfOk outcome HasPlainNumbers → IfOk outcome (IsDispatchOf window patterns)
    → ((printed : Printed) → PrintedObeys window printed → HasShapeOf window printed → HasPlainNumbers printed → printed.denominator ≡ 1 → Q printed)
    → IfOk outcome Q
if_dispatched window Q patterns (Ok printed) obeys shape numbers is goes = goes printed obeys shape numbers is.periods.shape.whole
if_dispatched window Q patterns (Err fault) obeys shape numbers is goes = tt

pub returns : goal.returns
returns c =
    let instance = c.args.instance.now in
    let kept = c.args.kept.now in
    let piece = c.args.piece in
    let place : piece.done + 1 - 1 ≡ piece.done = omega arith in
    if_dispatched c.in_ok-next.next (IsContinuation instance kept piece.done piece.keep) _ c.dispatch-shown.result c.dispatch-shown.ensures.obeys
    c.dispatch-shown.ensures.shape c.dispatch-shown.ensures.numbers c.dispatch-shown.ensures.dispatch
    (λ shown obeys shape numbers whole. record {
      len = piece.len;
      window = c.in_ok-next.next;
      next = record {
        carried = c.in_ok-carried.carried;
        is_carried = subst (λ m. IsCarried instance kept m c.in_ok-carried.carried) place c.in_ok-carried.ensures.carried;
        is_window = subst (λ m. IsWindow instance c.in_ok-carried.carried m piece.len c.in_ok-next.next) place c.in_ok-next.ensures.window;
      };
      lawful = c.in_ok-next.ensures.lawful;
      some = c.requires.some;
      part = c.requires.part;
      within = c.requires.within;
      shape = shape;
      whole = whole;
      numbers = numbers;
      obeys = obeys;
    })
