-- One run more has the slope added.
use Rattle.std.proofs.Common.{arith}
use Rattle.uc_model.proofs.Common.{abs_wide}
use Rattle.step_functions.proofs.RunEdits.{steepened-more}
use Rattle.step_functions.proofs.edits.steepen.Goals as goal

pub loop-run-preserved : goal.loop-run-preserved
loop-run-preserved c = grind (arith, steepened-more, abs_wide, c)
