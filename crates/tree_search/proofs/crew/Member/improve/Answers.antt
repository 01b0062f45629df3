-- A repair's schedule is in whole watts, and the worker's instance is that of the run.
use Rattle.std.proofs.Common.{subst}
use Rattle.uc_model.specs.declared.instance.Instance.{Instance}
use Rattle.schedule_check.specs.Accepted.{IsAcceptedIfFound}
use Rattle.found_schedule.proofs.Whole.{found_if_accepted}
use Rattle.tree_search.proofs.crew.Member.improve.Goals as goal

pub offer-requires-clause-found : goal.offer-requires-clause-found
offer-requires-clause-found g c =
    found_if_accepted g.C.SearchCase.exact_dispatch g.C.Case.opening.instance c.in_ok-found.found
    (subst (λ (i : Instance). IsAcceptedIfFound i c.in_ok-found.found) c.args.self.now.of c.in_ok-found.ensures.accepted)
