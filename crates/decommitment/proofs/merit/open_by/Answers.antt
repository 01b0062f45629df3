-- A place more, by what its segment says.
use Rattle.std.proofs.Common.{◌∙◌, ap, arith, subst, nat_lt, if◌then◌else◌}
use Rattle.std.specs.Int.{int_max, int_min}
use Rattle.dispatch_repair.specs.Prelude.{segment_at}
use Rattle.decommitment.specs.inside.Levels.{IsLeastOf, place_at}
use Rattle.decommitment.proofs.Least.{least_more}
use Rattle.decommitment.proofs.merit.open_by.Goals as goal

pub loop-place-init : goal.loop-place-init
loop-place-init c = grind (arith, c)

pub loop-place-preserved : goal.loop-place-preserved
loop-place-preserved c =
    let order = c.args.order.now in
    let places = c.args.places.now in
    let level = c.args.level in
    let range = c.args.range.now in
    let i = c.loop-place.place-index in
    let part = c.loop-place.part in
    let is = c.open_beside-part.ensures.low
    ∙ ap (λ high. if nat_lt (place_at places i) level then int_max part.low (int_min (segment_at order (place_at places i)).end high) else part.low)
    c.loop-place.invariant.high in
    record {
      least = subst (λ k. IsLeastOf order places level k range c.open_beside-part.result.low) (omega arith)
          (least_more order places level range i part.low c.open_beside-part.result.low is c.loop-place.invariant.least);
      high = c.open_beside-part.ensures.high ∙ c.loop-place.invariant.high;
    }

pub returns : goal.returns
returns c = grind (arith, c)
