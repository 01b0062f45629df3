-- Each step has the slope more.
use Rattle.std.proofs.Common.{arith, ◌≡◌, ◌++◌, length, take, drop, map, sym, subst, ◌∙◌, lit<, ◌+ℤ◌, ◌*ℤ◌, to_z, of_z}
use Rattle.std.specs.Int.{w128}
use Rattle.std.proofs.lemmas.Int.{to_z-of_z}
use Rattle.std.proofs.lemmas.List.{length-map}
use Rattle.uc_model.proofs.Sizes.{wide}
use Rattle.step_functions.specs.contracts.function.ConvexFunction.{the_view}
use Rattle.step_functions.specs.Functions.{IsSmall, MAX_VALUE}
use Rattle.step_functions.proofs.RunEdits.{steps-with_slope}
use Rattle.step_functions.specs.inside.Edits.{with_slope}
use Rattle.step_functions.proofs.Values.{owed, owed-first, small-own, told}
use Rattle.step_functions.proofs.Changes.{slope-made, slope-kept, run-sizes, bits-plain, within-fits, all-written}
use Rattle.step_functions.proofs.function.ConvexFunction.add_slope.Goals as goal
use Rattle.step_functions.proofs.function.ConvexFunction.add_slope.Goals.{After-steepen}

-- the runs that are written
written : (c : After-steepen)
    → take c.self.inside.runs.len (c.steepen.new.runs ++ drop (length c.steepen.new.runs) c.self.inside.runs.items) ≡ map (with_slope c.args.slope) c.self.inside.runs.items
written c = grind (arith, to_z-of_z, all-written, length-map)

-- and the value at the first place
value : (c : After-steepen) → to_z w128 (of_z w128 c.along-self-inside.result) ≡ c.self.inside.value +ℤ c.args.slope *ℤ c.self.inside.first
value c =
    let f = the_view c.self.inside in
    let slope = c.args.slope in
    let plain = c.along-self-inside.ensures ∙ bits-plain f.value slope f.first (small-own f c.self.invariant) c.ranges.slope (within-fits f.first c.self.invariant.first) in
    wide c.along-self-inside.result MAX_VALUE (subst IsSmall (sym plain) (owed-first f c.args.self.now (λ p. slope *ℤ p) c.self.view_is c.requires)) (lit< tt) ∙ plain

pub along-self-inside-requires-clause-reached : goal.along-self-inside-requires-clause-reached
along-self-inside-requires-clause-reached c =
    let f = the_view c.self.inside in
    subst IsSmall (sym (bits-plain f.value c.args.slope f.first (small-own f c.self.invariant) c.ranges.slope (within-fits f.first c.self.invariant.first)))
    (owed-first f c.args.self.now (λ p. c.args.slope *ℤ p) c.self.view_is c.requires)

pub steepen-requires : goal.steepen-requires
steepen-requires c = grind (arith, value, to_z-of_z, run-sizes, owed, c)

pub invariant_of-self : goal.invariant_of-self
invariant_of-self c =
    let at = (goal.at.invariant_of-self c).After-steepen in
    let f = the_view c.self.inside in
    slope-kept f _ c.args.slope _ (value at) (written at) c.self.invariant (owed f c.args.self.now (λ p. c.args.slope *ℤ p) c.self.view_is c.requires)

pub returns-clause-value : goal.returns-clause-value
returns-clause-value c =
    let at = (goal.at.returns-clause-value c).After-steepen in
    told (the_view c.self.inside) _ c.args.self.now 0 (λ p. c.args.slope *ℤ p) c.self.view_is (slope-made (the_view c.self.inside) _ c.args.slope _ (value at) (written at))

pub returns-clause-last : goal.returns-clause-last
returns-clause-last c = grind (arith, written, After-steepen, steps-with_slope, c)
