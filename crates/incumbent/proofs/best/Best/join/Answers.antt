use Rattle.std.proofs.Common.{rules}
use Rattle.incumbent.proofs.Orders.{joined_pass, joined_known}
use Rattle.incumbent.proofs.Steps.{joins}
use Rattle.incumbent.proofs.best.Best.join.Goals as goal

pub join_seat-requires : goal.join_seat-requires
join_seat-requires c = (search rules, search rules, search rules, search rules, joins _ _ _ _ _ c.pass.invariant.parts c.other.invariant.parts)

pub invariant_of-pass : goal.invariant_of-pass
invariant_of-pass c = joined_pass _ _ _ c.pass.invariant c.other.invariant c.join_seat.ensures.2

pub returns : goal.returns
returns c =
    joined_known _ _ _ _ _ _ _ _ c.join_seat.ensures.0 c.pass.view_is c.other.view_is c.pass.invariant c.other.invariant c.join_seat.ensures.2
