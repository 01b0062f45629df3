-- A broken rule comes before any period; a dispatch obeys, and has plain numbers.
use Rattle.std.proofs.Common.{arith}
use Rattle.std.proofs.lemmas.Result.{IfOk-weaker}
use Rattle.uc_model.specs.Prelude.{printed_denominator, printed_schedule, Obeys}
use Rattle.schedule_check.specs.PlainNumbers.{HasPlainNumbers}
use Rattle.dispatch_repair.specs.Prelude.{printed_of, IsDispatchOf}
use Rattle.dispatch_repair.proofs.BrokenRules.{broken_first}
use Rattle.dispatch_repair.proofs.Obeying.{obeying}
use Rattle.dispatch_repair.proofs.Periods.{stuck_by_rule}
use Rattle.dispatch_repair.proofs.Plain.{plain}
use Rattle.dispatch_repair.proofs.schedule.dispatch.Goals as goal

pub returns-in-Some-clause-fault : goal.returns-in-Some-clause-fault
returns-in-Some-clause-fault c =
    stuck_by_rule c.args.instance.now c.args.patterns.now (printed_of c.in_ok-rows.rows) c.in-Some.broken.rule c.in-Some.broken.unit c.in_ok-stuck_at.field-0
    c.in_ok-rows.ensures.committed.shape (broken_first c.args.instance.now c.args.patterns.now c.in-Some.broken.rule c.in-Some.broken.unit c.in-Some.ensures)
    c.in_ok-stuck_at.ensures

pub returns-clause-obeys : goal.returns-clause-obeys
returns-clause-obeys c =
    IfOk-weaker c.dispatched.result (IsDispatchOf c.args.instance.now c.args.patterns.now)
    (λ printed. Obeys c.args.instance.now (printed_denominator c.args.instance.now printed) (printed_schedule c.args.instance.now printed (printed_denominator c.args.instance.now printed)))
    (λ printed is. obeying c.args.instance.now c.args.patterns.now printed c.requires.lawful is.regular is.periods) c.dispatched.ensures.dispatch

pub returns-clause-numbers : goal.returns-clause-numbers
returns-clause-numbers c =
    IfOk-weaker c.dispatched.result (IsDispatchOf c.args.instance.now c.args.patterns.now) HasPlainNumbers
    (λ printed is. plain c.args.instance.now c.args.patterns.now c.args.instance.now.periods printed c.requires.lawful (omega arith) is.periods) c.dispatched.ensures.dispatch
