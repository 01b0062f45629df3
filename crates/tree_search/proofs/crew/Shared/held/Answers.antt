-- The worker's instance is that of the run, and what it has published costs no more than what it found.
use Rattle.std.proofs.Common.{◌∙◌, subst, sym}
use Rattle.uc_model.specs.declared.instance.Instance.{Instance}
use Rattle.decided_nodes.specs.Decided.{DecidesEach}
use Rattle.search_desk.specs.Best.{cost_of}
use Rattle.search_desk.specs.Desks.{IsHeldClaim}
use Rattle.search_desk.specs.Dispatches.{IsByDispatch}
use Rattle.search_desk.proofs.Dispatches.{by_dispatch-lower}
use Rattle.tree_search.proofs.crew.Shared.held.Goals as goal

pub evaluated-requires-clause-claim : goal.evaluated-requires-clause-claim
evaluated-requires-clause-claim g c =
    subst (λ (i : Instance). IsHeldClaim i c.args.claim.now) (sym c.args.member.now.of) c.requires.claim.held

pub entered-left-requires-clause-dispatch : goal.entered-left-requires-clause-dispatch
entered-left-requires-clause-dispatch g c = λ asked first.
    let own = c.args.member.now.of in
    let path = c.args.claim.now.path in
    let visited = c.in-Ok.field-0 in
    let found = cost_of visited.found in
    let is = c.in-Ok.ensures.visited in
    record {
      direct = λ enough none. subst (λ (i : Instance). DecidesEach i path) own (is.direct (c.args.self.now.exhaustive asked enough) none);
      exact = λ each.
          by_dispatch-lower g.C.Case.opening.instance path found (cost_of c.offer.new.self.schedule) visited.done.table visited.done.outcome c.offer.ensures.found
          (subst (λ (i : Instance). IsByDispatch i path found visited.done.table visited.done.outcome) own
          (is.exact (c.args.self.now.dispatch ∙ asked) first (subst (λ (i : Instance). DecidesEach i path) (sym own) each)));
    }
