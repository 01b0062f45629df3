use Rattle.thread_tests.proofs.Seats.{both_seats}
use Rattle.thread_tests.proofs.pools.two_seats.Goals as goal
use Rattle.std.proofs.Common.{◌∙◌, sym}

pub returns : goal.returns
returns c = both_seats c.args.budget _ _ _ _ _ c.in_ok-new.ensures (sym c.into_seats-seats.ensures ∙ c.in-Some.ensures.items) c.in-Some-pop.ensures.items
