-- Each worker takes its seat and a part of the incumbent.
use Rattle.std.proofs.Common.{◌≡◌, ◌∙◌, ◌+◌, All, ap, arith, drop, refl, subst, sym, vec_len}
use Rattle.steal_pool.specs.Pools.{IsFreshPool}
use Rattle.search_desk.specs.Passes.{OwnBestView}
use Rattle.tree_search.specs.inside.Searches.{IsOn}
use Rattle.tree_search.proofs.Seats.{last_holds, others_hold, seat_next}
use Rattle.tree_search.proofs.members.seated.Goals as goal

pub loop-seat-init : goal.loop-seat-init
loop-seat-init g c =
    let none : vec_len c.new-members.result ≡ 0 = omega (arith, c.new-members.ensures.len) in
    let seats = c.into_iter-seat-iterator.result.rest.items in
    let same = c.into_iter-seat-iterator.ensures.into_iter_gives.0 in (
      ap (λ n. drop n seats) none,
      subst (IsFreshPool c.args.options.now.workers (c.args.options.now.budget + 2)) (sym same) c.requires.seats,
      omega (arith, none, c.requires.workers),
      omega (arith, none, c.requires.parts),
      refl,
      c.requires.of,
    )

pub new-tickets-requires : goal.new-tickets-requires
new-tickets-requires g c =
    let before = c.loop-seat.invariant in
    let next = seat_next c.args.options.now.workers (c.args.options.now.budget + 2) (vec_len c.loop-seat.members) c.into_iter-seat-iterator.result.rest.items
    c.loop-seat.seat-iterator.rest.items c.next.new.self.rest.items c.in-Some.seat before.1 before.0 c.in-Some.ensures.steps.0 in
    record {
      mine = next.me ∙ sym c.len-me.ensures;
      within = omega (arith, next.within, c.len-me.ensures);
      others = next.others;
      room = next.space;
    }

pub new-requires-clause-of : goal.new-requires-clause-of
new-requires-clause-of g c =
    let here = IsOn g.C.Case.opening.instance in
    last_holds here c.pop.new.self.items c.in-Some-pop.worker (subst (All here) c.in-Some-pop.ensures.items c.loop-seat.invariant.5)

pub loop-seat-preserved : goal.loop-seat-preserved
loop-seat-preserved g c =
    let here = IsOn g.C.Case.opening.instance in
    let before = c.loop-seat.invariant in
    let seats = c.into_iter-seat-iterator.result.rest.items in
    let next = seat_next c.args.options.now.workers (c.args.options.now.budget + 2) (vec_len c.loop-seat.members) seats
    c.loop-seat.seat-iterator.rest.items c.next.new.self.rest.items c.in-Some.seat before.1 before.0 c.in-Some.ensures.steps.0 in
    let len : vec_len c.push.new.self ≡ vec_len c.loop-seat.members + 1 = omega (arith, c.in_ok-push.ensures.len) in (
      ap (λ n. drop n seats) len ∙ next.next,
      before.1,
      omega (arith, len, before.2, c.in-Some-pop.ensures.cases),
      omega (arith, len, before.3, ap (λ (o : OwnBestView). o.parts) c.split.ensures.left, next.within),
      ap (λ (o : OwnBestView). o.schedule) c.split.ensures.left ∙ before.4,
      others_hold here c.pop.new.self.items c.in-Some-pop.worker (subst (All here) c.in-Some-pop.ensures.items before.5),
    )
