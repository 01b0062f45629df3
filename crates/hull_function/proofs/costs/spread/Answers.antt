-- The ends move by the ramps, and each value is one that was there.
use Rattle.std.proofs.Common.{◌≡◌, subst, arith, ◌+ℤ◌, ◌-ℤ◌, to_z, of_z}
use Rattle.std.specs.Int.{w64}
use Rattle.std.proofs.lemmas.Int.{ints}
use Rattle.step_functions.specs.Functions.{IsLeastBetween, last_place, value_at}
use Rattle.hull_function.proofs.HourSums.{limit-is}
use Rattle.hull_function.proofs.Represented.{ramped}
use Rattle.hull_function.proofs.costs.spread.Goals as goal

pub ramp-requires-clause-first : goal.ramp-requires-clause-first
ramp-requires-clause-first c = grind (arith, ints, c)

pub ramp-requires-clause-last : goal.ramp-requires-clause-last
ramp-requires-clause-last c = grind (arith, ints, c)

pub returns-clause-costs : goal.returns-clause-costs
returns-clause-costs c = λ cost is.
    let f = c.args.function.now in
    let g = c.ramp.new.self in
    let up = limit-is c.args.up c.requires.up in
    let down = limit-is c.args.down c.requires.down in
    ramped f g cost c.args.up c.args.down is
    (subst (λ z. g.first ≡ f.first -ℤ z) down c.ramp.ensures.first)
    (subst (λ z. last_place g ≡ last_place f +ℤ z) up c.ramp.ensures.last)
    (λ p place. subst (λ z. IsLeastBetween f (p -ℤ z) (p +ℤ c.args.down) (value_at g p)) up
    (subst (λ z. IsLeastBetween f (p -ℤ to_z w64 (of_z w64 c.args.up)) (p +ℤ z) (value_at g p)) down (c.ramp.ensures.least p place)))

pub returns-clause-size : goal.returns-clause-size
returns-clause-size c = grind (arith, ints, c.ramp.ensures.least, c)

pub returns-clause-near : goal.returns-clause-near
returns-clause-near c = grind (arith, ints, c)
