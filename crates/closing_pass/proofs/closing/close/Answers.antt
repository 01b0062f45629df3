-- Each step commits one claim, so that at the end the budget is spent.
use Rattle.std.proofs.Common.{arith, subst, sym, ℤ, Option}
use Rattle.uc_model.specs.declared.schedule.Printed.{Printed}
use Rattle.search_desk.specs.Best.{cost_of}
use Rattle.search_desk.proofs.Costs.{at_most_itself}
use Rattle.closing_pass.specs.Closings.{IsLeft}
use Rattle.closing_pass.proofs.Ended.{spent_whole}
use Rattle.closing_pass.proofs.closing.close.Goals as goal

pub loop-step-init : goal.loop-step-init
loop-step-init g c =
    let opening = g.C.Case.opening in
    let best = c.args.progress.now.best in (
      omega arith,
      omega arith,
      subst (IsLeft g.C.SearchCase.exact opening c.args.progress.now.book (cost_of best)) (sym c.requires.budget) c.requires.left,
      c.requires.found,
      at_most_itself (cost_of best),
      c.requires.pivoted,
    )

pub next-requires-clause-left : goal.next-requires-clause-left
next-requires-clause-left g c = (c.loop-step.scale, c.loop-step.invariant.2)

pub settle-requires-clause-left : goal.settle-requires-clause-left
settle-requires-clause-left g c =
    subst (λ (b : Option (Printed × ℤ)). IsLeft g.C.SearchCase.exact g.C.Case.opening c.next.new.progress.book (cost_of b) c.loop-step.scale)
    (sym c.next.ensures.best) (c.next.ensures.left c.loop-step.scale c.loop-step.invariant.2)

pub returns-clause-ended : goal.returns-clause-ended
returns-clause-ended g c =
    spent_whole g.C.SearchCase.exact g.C.Case.opening c.loop-step.progress.book c.loop-step.progress.best c.loop-step.scale c.keeps_run-2.ensures
    c.loop-step.invariant.2.kept (omega (arith, c.loop-step.invariant.0, c.loop-step-test.false, c.requires.budget))
