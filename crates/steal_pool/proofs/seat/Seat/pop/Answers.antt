use Rattle.std.proofs.Common.{refl, ap, ◌∙◌}
use Rattle.steal_pool.specs.Seats.{own_log}
use Rattle.steal_pool.proofs.Steps.{takes_one}
use Rattle.steal_pool.proofs.SeatLaws.{same_seat, pop_tells, popped_seat}
use Rattle.steal_pool.proofs.seat.Seat.pop.Goals as goal

pub pop_as-requires-clause-fifo : goal.pop_as-requires-clause-fifo
pop_as-requires-clause-fifo c fifo = takes_one _ _

pub returns-clause-some : goal.returns-clause-some
returns-clause-some c = pop_tells c.pop_as.result _ _ _ c.args.self.now _ c.pop_as.ensures.rule (c.self.invariant.1 ∙ ap own_log c.self.view_is)
    (popped_seat _ _ _ c.self.view_is (same_seat _ _ refl (ap (λ d. d.0) c.pop_as.ensures.same.0.0) refl refl refl refl))
