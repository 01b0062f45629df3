-- The opening's schedule is in whole watts.
use Rattle.found_schedule.proofs.Whole.{found_if_accepted}
use Rattle.tree_search.proofs.begun.Begun.into_crew.Goals as goal

pub offer-requires-clause-found : goal.offer-requires-clause-found
offer-requires-clause-found g c =
    found_if_accepted g.C.SearchCase.exact_dispatch g.C.Case.opening.instance c.args.self.start.best c.requires.accepted
