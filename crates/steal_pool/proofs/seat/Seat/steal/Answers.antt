use Rattle.std.proofs.Common.{ap, ◌∙◌, arith, IfSome, IfNone}
use Rattle.steal_pool.specs.Seats.{SeatOf, place_among, Takes, TakesNone}
use Rattle.steal_pool.proofs.SeatLaws.{seat_place_within, theft_tells}
use Rattle.steal_pool.proofs.seat.Seat.steal.Goals as goal

pub index_mut-theft-requires : goal.index_mut-theft-requires
index_mut-theft-requires c = grind (arith, c)

pub returns-clause-some : goal.returns-clause-some
returns-clause-some c =
    theft_tells (λ old new. IfSome c.steal.result (λ node. Takes old node new)) _ _ _ _ _ c.args.self.now
    (seat_place_within _ c.args.self.now c.args.victim _ c.self.view_is c.requires.worker c.requires.another c.self.invariant.4 c.place_of-place.ensures)
    (c.place_of-place.ensures ∙ ap (λ (s : SeatOf). place_among s.me c.args.victim) c.self.view_is)
    (ap (λ (s : SeatOf). s.others) c.self.view_is) c.index_mut-theft.ensures.value c.steal.ensures.some

pub returns-clause-none : goal.returns-clause-none
returns-clause-none c =
    theft_tells (λ old new. IfNone c.steal.result (TakesNone old new)) _ _ _ _ _ c.args.self.now
    (seat_place_within _ c.args.self.now c.args.victim _ c.self.view_is c.requires.worker c.requires.another c.self.invariant.4 c.place_of-place.ensures)
    (c.place_of-place.ensures ∙ ap (λ (s : SeatOf). place_among s.me c.args.victim) c.self.view_is)
    (ap (λ (s : SeatOf). s.others) c.self.view_is) c.index_mut-theft.ensures.value c.steal.ensures.none
