-- The desk has seen what the worker has published.
use Rattle.std.proofs.Common.{subst, sym}
use Rattle.search_desk.specs.Best.{cost_of}
use Rattle.search_desk.specs.Desks.{DeskView}
use Rattle.search_desk.specs.Dispatches.{IsFirstByDispatch}
use Rattle.search_desk.proofs.Dispatches.{first_lower}
use Rattle.tree_search.proofs.crew.Shared.entered.Goals as goal

pub commit-left-requires-clause-dispatch : goal.commit-left-requires-clause-dispatch
commit-left-requires-clause-dispatch g c =
    let claim = c.args.claim.now in
    let asked = g.C.SearchCase.exact_dispatch in
    let opening = g.C.Case.opening in
    subst (λ (d : DeskView). IsFirstByDispatch asked opening claim.path claim.had d.seen c.args.done) (sym c.deref_mut-2.ensures.value)
    (first_lower asked opening claim.path claim.had (cost_of c.args.member.now.own.schedule) c.meet.new.self.seen c.args.done c.meet.ensures.seen
    c.requires.dispatch)
