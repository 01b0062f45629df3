use Rattle.std.proofs.Common.{map, ◌+◌, ap, ◌∙◌, sym, subst}
use Rattle.std.proofs.lemmas.List.{length-map}
use Rattle.steal_pool.specs.Ends.{own_id}
use Rattle.steal_pool.specs.Pools.{AreFresh}
use Rattle.steal_pool.proofs.pool.Pool.new.Goals as goal

pub returns : goal.returns
returns c = (
  map own_id c.in_ok-deques.deques.items,
  length-map c.in_ok-deques.deques.items own_id ∙ (sym c.in_ok-deques.deques.ok.0 ∙ c.in_ok-deques.ensures.0),
  sym c.in_ok-seats.seats.ok.0 ∙ (c.in_ok-seats.ensures.0 ∙ c.in_ok-deques.ensures.0),
  subst (λ n. AreFresh (map own_id c.in_ok-deques.deques.items) n c.in_ok-seats.seats.items) (ap (λ n. n + 2) c.from-room.ensures) c.in_ok-seats.ensures.1,
)
