-- The closing pass makes the schedule no worse.
use Rattle.std.proofs.Common.{subst, IfOk}
use Rattle.search_desk.specs.Best.{IsNoWorse, cost_of}
use Rattle.search_desk.proofs.Costs.{at_most_through}
use Rattle.tree_search.proofs.grow.ended.Goals as goal

pub returns-clause-no_worse : goal.returns-clause-no_worse
returns-clause-no_worse g c =
    let before = c.in_ok-book.best in
    let after = c.close-closed.new.progress.best in
    let closed : IsNoWorse before after =
    subst (λ made. IfOk made (λ _. IsNoWorse before after)) c.in_ok-progress.ensures.made c.close-closed.ensures.no_worse in
    let whole : IsNoWorse c.args.crew.own.schedule after =
    at_most_through (cost_of after) (cost_of before) (cost_of c.args.crew.own.schedule) closed c.in_ok-book.ensures.no_worse in
    rw c.in_ok-progress.ensures.value whole
