-- The run of the better dispatch stays, and the other one's memory is used for the next trial.
use Rattle.std.proofs.Common.{refl, sym, ◌∙◌}
use Rattle.decommitment.proofs.RunTurns.{run_better, run_worse}
use Rattle.decommitment.proofs.pass.choose.Goals as goal

pub returns-then-is_better : goal.returns-then-is_better
returns-then-is_better c = λ instance order start tried.
    run_better instance order start c.args.turn c.args.pass.now _ tried (sym c.is_better.ensures ∙ c.if-is_better.true) refl c.swap.ensures.x_after
    c.swap.ensures.y_after c.replace.ensures

pub returns-else-is_better : goal.returns-else-is_better
returns-else-is_better c = λ instance order start tried.
    run_worse instance order start c.args.turn c.args.pass.now _ tried (sym c.is_better.ensures ∙ c.if-is_better.false) refl refl refl refl
