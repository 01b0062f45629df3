-- Each worker is on the instance of the last one.
use Rattle.std.proofs.Common.{All, IfOk, subst, sym}
use Rattle.std.proofs.lemmas.List.Elements.{All-push}
use Rattle.tree_search.specs.inside.Searches.{IsOn}
use Rattle.tree_search.proofs.members.workers.Goals as goal

pub returns-clause-of : goal.returns-clause-of
returns-clause-of c =
    let here = IsOn c.args.last in
    let others = subst (λ made. IfOk made (λ workers. All (IsOn c.values.result.instance.now) workers.items)) c.in_ok-last.ensures.made c.others-others.ensures.of in
    let each = subst (λ i. All (IsOn i) c.in_ok-last.workers.items) c.values.ensures.is others in
    subst (All here) (sym c.in_ok-push.ensures.items) (All-push here c.in_ok-last.workers.items c.in_ok-last.last each c.in_ok-last.ensures.value)
