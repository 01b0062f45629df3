-- Each end from the steps before it.
use Rattle.std.proofs.lemmas.Result.{IfErr-weaker, IfOk-weaker}
use Rattle.command_line.specs.Asked.{roll_asked}
use Rattle.uc_cli.proofs.Rolls.{done, untold}
use Rattle.uc_cli.proofs.rolling.find_and_tell.Goals as goal

pub returns-in-Ok-clause-done : goal.returns-in-Ok-clause-done
returns-in-Ok-clause-done g c = λ err_old err_new.
    IfOk-weaker c.told.result _ _
    (λ left is. done (roll_asked c.args.asked.now) _ _ _ _ err_old err_new _ _ _ left c.in-Ok.ensures.answer c.in-Ok.ensures.others c.in-Ok.ensures.calm is)
    c.told.ensures.told

pub returns-in-Ok-clause-failed : goal.returns-in-Ok-clause-failed
returns-in-Ok-clause-failed g c = λ err_old err_new.
    IfErr-weaker c.told.result _ _
    (λ failure is. untold (roll_asked c.args.asked.now) _ _ _ _ err_old err_new _ _ _ failure.fault failure.rolled c.in-Ok.ensures.answer is)
    c.told.ensures.untold
