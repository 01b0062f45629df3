use Rattle.std.proofs.Common.{map, [], ap, ◌∙◌, sym, arith, remove}
use Rattle.std.proofs.lemmas.List.{length-map}
use Rattle.steal_pool.specs.Seats.{untouched}
use Rattle.steal_pool.specs.Ends.{own_id, victim_id}
use Rattle.steal_pool.proofs.Making.{drop_next, others_count, seats_more}
use Rattle.steal_pool.proofs.pool.seats.Goals as goal

pub new-seat-requires-clause-others : goal.new-seat-requires-clause-others
new-seat-requires-clause-others c = grind (arith, drop_next, length-map, others_count, c)

pub loop-own-preserved : goal.loop-own-preserved
loop-own-preserved c =
    seats_more _ _ _ _ _ _ _ _ _ _ c.in_ok-others.others.items _ c.loop-own.invariant.0 c.in-Some.ensures.steps.0 c.loop-own.invariant.2
    (sym c.loop-own.made.ok.0) c.in_ok-push.ensures.items c.in_ok-push.ensures.len c.requires.same
    (c.in_ok-others.ensures ∙ ap (λ n. map untouched (remove (map victim_id c.args.victims.now) n)) c.len-me.ensures)
    (c.new-seat.ensures ∙ ap (λ n. record {
      me = n;
      deque = own_id c.in-Some.own;
      room = c.args.room;
      put = [];
      took = [];
      others = c.in_ok-others.others.items;
    }) c.len-me.ensures)
