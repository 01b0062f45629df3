use Rattle.std.proofs.Common.{◌+◌, ◌*◌, ◌≤◌, length}
use Rattle.found_schedule.specs.Found.{IsFoundIfAny}
use Rattle.closing_pass.specs.Closings.{IsLeft}
use Rattle.search_desk.specs.Best.{IsNoWorse, cost_of}
use Rattle.search_desk.specs.Dispatches.{IsPivotedBook}
use Rattle.closing_pass.proofs.closing.close.Given as goal

-- each step committed one claim, and used up at most two scales
abbrev pub invariant-loop-step : goal.invariant-loop-step
invariant-loop-step g l = (l.step ≤ length l.progress.book.log) × (l.scale ≤ l.closing.budget + 2 * l.step)
    × IsLeft g.C.SearchCase.exact g.C.Case.opening l.progress.book (cost_of l.progress.best) l.scale
    × IsFoundIfAny g.C.SearchCase.exact_dispatch g.C.Case.opening.instance l.progress.best × IsNoWorse l.initial.progress.best l.progress.best
    × IsPivotedBook g.C.SearchCase.exact_dispatch g.C.Case.opening l.progress.book
