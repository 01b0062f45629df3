-- A place more is one of its source's own.
use Rattle.std.proofs.Common.{arith, subst, ◌∙◌}
use Rattle.std.proofs.lemmas.List.{length-map}
use Rattle.dispatch_repair.specs.Prelude.{rows_of}
use Rattle.decommitment.specs.inside.Levels.{AreOwnPlaces}
use Rattle.decommitment.proofs.Places.{none, pushed}
use Rattle.decommitment.proofs.merit.own_places.Goals as goal

pub loop-j-init : goal.loop-j-init
loop-j-init c = none c.args.order.now c.args.sources (rows_of c.in_ok-own.own.items) (length-map _ _ ∙ c.in_ok-own.ensures.count) c.in_ok-own.ensures.none

pub push_place-requires : goal.push_place-requires
push_place-requires c = grind (arith, length-map, c)

pub loop-j-preserved : goal.loop-j-preserved
loop-j-preserved c =
    subst (λ k. AreOwnPlaces c.args.order.now c.args.sources k (rows_of c.push_place.new.own.items)) (omega arith)
    (pushed c.args.order.now c.args.sources c.loop-j.j (rows_of c.loop-j.own.items) (rows_of c.push_place.new.own.items) c.loop-j.invariant c.in_ok-push_place.ensures
    (c.requires c.loop-j.j c.loop-j-test.true))

pub returns : goal.returns
returns c = grind (arith, c)
