-- The level steps behind those that fall.
use Rattle.std.proofs.Common.{◌≡◌, refl, sym, ap, subst, ◌∙◌, ℤ, ◌+ℤ◌, ◌-ℤ◌, to_z, of_z, vec_capacity}
use Rattle.std.specs.Int.{w64}
use Rattle.step_functions.specs.contracts.function.ConvexFunction.{the_view}
use Rattle.step_functions.specs.Functions.{Steps, IsPlace, IsWithin, IsLeastBetween, last_place, value_at}
use Rattle.step_functions.proofs.Ramps.{IsRamped, ramped, ramp-last, ramp-least, ramp-kept, first-is, the_width}
use Rattle.step_functions.proofs.function.ConvexFunction.ramp.Goals as goal
use Rattle.step_functions.proofs.function.ConvexFunction.ramp.Goals.{After-spread}

abbrev after_ramp : After-spread → Steps
after_ramp c =
    record (the_view c.self.inside) {
      first = to_z w64 (of_z w64 (to_z w64 (of_z w64 c.self.inside.first) -ℤ to_z w64 (of_z w64 c.args.down)));
      runs = c.spread.new.runs.items;
      room = vec_capacity c.spread.new.runs;
    }

low : (c : After-spread) → IsWithin (c.self.inside.first -ℤ c.args.down)
low c = subst (λ (h : Steps). IsWithin (h.first -ℤ c.args.down)) (sym c.self.view_is) c.requires.first

high : (c : After-spread) → IsWithin (last_place (the_view c.self.inside) +ℤ c.args.up)
high c = subst (λ (h : Steps). IsWithin (last_place h +ℤ c.args.up)) (sym c.self.view_is) c.requires.last

first : (c : After-spread) → (after_ramp c).first ≡ c.self.inside.first -ℤ c.args.down
first c = first-is c.self.inside.first c.args.down c.self.invariant.first (low c)

is_ramped : (c : After-spread) → IsRamped (the_view c.self.inside) (after_ramp c) (the_width c.args.up c.args.down) c.args.up c.args.down
is_ramped c =
    ramped (the_view c.self.inside) (after_ramp c) c.args.up c.args.down c.requires.up c.requires.down c.self.invariant (low c) (high c) (first c) refl c.spread.ensures.spread

pub invariant_of-self : goal.invariant_of-self
invariant_of-self c =
    let at = (goal.at.invariant_of-self c).After-spread in
    let f = the_view c.self.inside in
    let w = the_width c.args.up c.args.down in
    ramp-kept f (after_ramp at) w c.args.up c.args.down (is_ramped at) c.self.invariant c.spread.ensures.lengths (subst IsWithin (sym (first at)) (low at))
    (subst IsWithin (sym (ramp-last f (after_ramp at) w c.args.up c.args.down (is_ramped at))) (high at))

pub returns-clause-first : goal.returns-clause-first
returns-clause-first c = first (goal.at.returns-clause-first c).After-spread ∙ ap (λ (h : Steps). h.first -ℤ c.args.down) c.self.view_is

pub returns-clause-last : goal.returns-clause-last
returns-clause-last c =
    let at = (goal.at.returns-clause-last c).After-spread in
    ramp-last (the_view c.self.inside) (after_ramp at) (the_width c.args.up c.args.down) c.args.up c.args.down (is_ramped at) ∙ ap (λ (h : Steps). last_place h +ℤ c.args.up) c.self.view_is

pub returns-clause-least : goal.returns-clause-least
returns-clause-least c =
    let at = (goal.at.returns-clause-least c).After-spread in
    let g = after_ramp at in
    subst (λ (h : Steps). (p : ℤ) → IsPlace g p → IsLeastBetween h (p -ℤ c.args.up) (p +ℤ c.args.down) (value_at g p)) c.self.view_is
    (ramp-least (the_view c.self.inside) g (the_width c.args.up c.args.down) c.args.up c.args.down (is_ramped at))
