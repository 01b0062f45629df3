-- The steps go on by those of the run.
use Rattle.std.proofs.Common.{arith, ◌≡◌, ℕ, ◌<◌, ◌≤◌, [], ◌∷◌, ◌++◌, sym, subst, ◌∙◌, ℤ, pos, ◌+ℤ◌, ◌*ℤ◌, ◌≤ℤ◌, vec_capacity}
use Rattle.std.specs.Int.{w128}
use Rattle.std.proofs.lemmas.Int.{to_z-of_z}
use Rattle.step_functions.specs.contracts.function.ConvexFunction.{the_view}
use Rattle.step_functions.specs.Runs.{Run, slope_at, steps_of}
use Rattle.step_functions.specs.Functions.{Steps, IsPlace, IsSmall, IsWithin, last_place, value_at}
use Rattle.step_functions.specs.inside.Kept.{IsKept}
use Rattle.step_functions.proofs.Extended.{extended-old, extended-new, extended-before, extended-after, extended-kept}
use Rattle.step_functions.proofs.function.ConvexFunction.extend.Goals as goal
use Rattle.step_functions.proofs.function.ConvexFunction.extend.Goals.{After-push_reserved}

-- the run that is pushed, its slope written as its bits
abbrev run_of : After-push_reserved → Run
run_of c = record { length = c.args.length; slope = c.args.slope }

pushed : (c : After-push_reserved) → c.push_reserved.new.self.items ≡ c.self.inside.runs.items ++ run_of c ∷ []
pushed c = c.push_reserved.ensures.items ∙ (λ t. c.self.inside.runs.items ++ (record { length = c.args.length; slope = to_z-of_z w128 c.args.slope c.ranges.slope t }) ∷ [])

pub invariant_of-self : goal.invariant_of-self
invariant_of-self c =
    let at = (goal.at.invariant_of-self c).After-push_reserved in
    let f = the_view c.self.inside in
    let room = vec_capacity c.push_reserved.new.self in
    subst (λ xs. IsKept (record f { runs = xs; room = room })) (sym (pushed at))
    (extended-kept f (run_of at) room c.self.invariant c.requires.length
    (subst (λ (g : Steps). (k : ℕ) → k < steps_of g.runs → slope_at g.runs k ≤ℤ c.args.slope) (sym c.self.view_is) c.requires.rising)
    (subst (λ (g : Steps). IsWithin (last_place g +ℤ pos c.args.length)) (sym c.self.view_is) c.requires.place)
    (subst (λ (g : Steps). IsSmall (value_at g (last_place g) +ℤ pos c.args.length *ℤ c.args.slope)) (sym c.self.view_is) c.requires.size))

pub returns-clause-before : goal.returns-clause-before
returns-clause-before c =
    let at = (goal.at.returns-clause-before c).After-push_reserved in
    let f = the_view c.self.inside in
    let room = vec_capacity c.push_reserved.new.self in
    subst (λ (h : Steps). (p : ℤ) → IsPlace h p → value_at (record f { runs = c.push_reserved.new.self.items; room = room }) p ≡ value_at h p) c.self.view_is
    (subst (λ xs. (p : ℤ) → IsPlace f p → value_at (record f { runs = xs; room = room }) p ≡ value_at f p) (sym (pushed at)) (extended-before f (run_of at) room))

pub returns-clause-after : goal.returns-clause-after
returns-clause-after c =
    let at = (goal.at.returns-clause-after c).After-push_reserved in
    let f = the_view c.self.inside in
    let room = vec_capacity c.push_reserved.new.self in
    let g : Steps = record f { runs = c.push_reserved.new.self.items; room = room } in
    subst (λ (h : Steps). (k : ℕ) → k ≤ c.args.length → value_at g (last_place h +ℤ pos k) ≡ value_at h (last_place h) +ℤ pos k *ℤ c.args.slope) c.self.view_is
    (subst (λ xs. (k : ℕ) → k ≤ c.args.length → value_at (record f { runs = xs; room = room }) (last_place f +ℤ pos k) ≡ value_at f (last_place f) +ℤ pos k *ℤ c.args.slope) (sym (pushed at))
    (extended-after f (run_of at) room))

pub returns-clause-old_steps : goal.returns-clause-old_steps
returns-clause-old_steps c = grind (arith, After-push_reserved, pushed, extended-old, c)

pub returns-clause-new_steps : goal.returns-clause-new_steps
returns-clause-new_steps c = grind (arith, After-push_reserved, pushed, extended-new, c)
