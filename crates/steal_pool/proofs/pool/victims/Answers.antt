-- One front more.
use Rattle.std.proofs.Common.{[], All, subst, sym, ◌∙◌}
use Rattle.std.proofs.lemmas.List.Elements.{All-push}
use Rattle.crossbeam_deque.specs.Handles.{worker_flavor}
use Rattle.steal_pool.specs.Ends.{IsFirstInFirstOut, own_id, victim_id}
use Rattle.steal_pool.proofs.Making.{made_more}
use Rattle.steal_pool.proofs.pool.victims.Goals as goal

pub loop-own-preserved : goal.loop-own-preserved
loop-own-preserved c =
    let own = c.own-item.result in
    let victim = c.in_ok-victim.victim in (
      made_more victim_id own_id [] c.loop-own.made.items _ c.args.deques.now c.loop-own.own-index victim own c.loop-own.invariant.0 c.in_ok-push.ensures.items
          c.loop-own-test.true c.own-item.is (λ i. (c.in_ok-victim.ensures.0 i).0),
      subst (All IsFirstInFirstOut) (sym c.in_ok-push.ensures.items) (All-push IsFirstInFirstOut c.loop-own.made.items victim c.loop-own.invariant.1
          (c.in_ok-victim.ensures.1 ∙ (λ i. worker_flavor (c.own-item.is i)) ∙ c.requires c.loop-own.own-index own c.loop-own-test.true)),
    )
