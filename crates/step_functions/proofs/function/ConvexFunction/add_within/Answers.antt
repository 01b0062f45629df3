-- The other's steps are added from the one on with which this one begins.
use Rattle.std.proofs.Common.{◌≡◌, ℕ, ◌+◌, ◌≤◌, sym, ap, subst, ◌∙◌, arith, lit<, ℤ, pos, ◌+ℤ◌, ◌≤ℤ◌, to_z, of_z, vec_capacity}
use Rattle.std.specs.Int.{w64, w128}
use Rattle.std.proofs.lemmas.Int.{ints}
use Rattle.uc_model.proofs.Common.{narrow}
use Rattle.step_functions.specs.contracts.function.ConvexFunction.{the_view}
use Rattle.step_functions.specs.Runs.{steps_of}
use Rattle.step_functions.specs.Functions.{Steps, IsPlace, IsSmall, IsWithin, MAX_PLACE, last_place, value_at}
use Rattle.step_functions.specs.inside.Edits.{AreAdded}
use Rattle.step_functions.specs.inside.Kept.{height, HaveSteps, HaveSmallSlopes}
use Rattle.step_functions.proofs.Values.{owed, small-own, told, value_at-place}
use Rattle.step_functions.proofs.Changes.{kept-slopes}
use Rattle.step_functions.proofs.Cuts.{IsAddedOn, sum-made, sum-kept}
use Rattle.step_functions.proofs.function.ConvexFunction.add_within.Goals as goal
use Rattle.step_functions.proofs.function.ConvexFunction.add_within.Goals.{After-add_runs}

-- the place where it begins, and the steps of the other behind it
first-is : (first other_first : ℤ) (skipped : ℕ) → IsWithin first → to_z w64 (of_z w64 first) ≡ other_first +ℤ pos skipped → first ≡ other_first +ℤ pos skipped
first-is first other_first skipped within at = sym (narrow first MAX_PLACE within (lit< tt)) ∙ at

steps-left : (f other : Steps) (skipped : ℕ) → f.first ≡ other.first +ℤ pos skipped → last_place f ≤ℤ last_place other → skipped + steps_of f.runs ≤ steps_of other.runs
steps-left f other skipped first before = omega (arith, ints)

-- the ends of the values behind the fields
ends : (f other own their : Steps) → f ≡ own → other ≡ their → last_place own ≤ℤ last_place their → last_place f ≤ℤ last_place other
ends f other own their same same_other before = subst (λ (h : Steps). last_place f ≤ℤ last_place h) (sym same_other) (subst (λ (h : Steps). last_place h ≤ℤ last_place their) (sym same) before)

sum-written : (value reached : ℤ) → IsSmall value → IsSmall reached
    → to_z w128 (of_z w128 (to_z w128 (of_z w128 value) +ℤ to_z w128 (of_z w128 reached))) ≡ value +ℤ reached
sum-written value reached own other = grind (arith, ints, own, other)

-- the sum, by what the calls answer
added : (c : After-add_runs)
    → IsAddedOn (the_view c.self.inside) (the_view c.other.inside) c.add_runs.new.runs.items c.steps_to-skipped.result
    (to_z w128 (of_z w128 (to_z w128 (of_z w128 c.self.inside.value) +ℤ to_z w128 (of_z w128 c.height.result))))
added c =
    let f = the_view c.self.inside in
    let other = the_view c.other.inside in
    let skipped = c.steps_to-skipped.result in
    let first = first-is f.first other.first skipped c.self.invariant.first (c.steps_to-skipped.ensures.value ∙ ap (λ (h : Steps). h.first +ℤ pos skipped) (sym c.other.view_is)) in
    record {
      first = first;
      within = steps-left f other skipped first (ends f other c.args.self.now c.args.other.now c.self.view_is c.other.view_is c.requires.before);
      value = sum-written f.value c.height.result (small-own f c.self.invariant) c.height.ensures.small
          ∙ ap (λ x. f.value +ℤ x)
          (c.height.ensures.value ∙ ap (λ (h : Steps). height h.value h.runs skipped) (sym c.other.view_is) ∙ sym (value_at-place other f.first skipped first));
      added = subst (λ ys. AreAdded f.runs ys c.add_runs.new.runs.items skipped) c.deref.ensures.value c.add_runs.ensures.added;
    }

pub overflow_add-self : goal.overflow_add-self
overflow_add-self c = grind (arith, ints, c)

pub add_runs-requires-clause-within : goal.add_runs-requires-clause-within
add_runs-requires-clause-within c = grind (arith, ints, c)

pub add_runs-requires-clause-other_lengths : goal.add_runs-requires-clause-other_lengths
add_runs-requires-clause-other_lengths c = subst HaveSteps (sym c.deref.ensures.value) c.other.invariant.steps

pub add_runs-requires-clause-sizes : goal.add_runs-requires-clause-sizes
add_runs-requires-clause-sizes c = kept-slopes (the_view c.self.inside) c.self.invariant

pub add_runs-requires-clause-other_sizes : goal.add_runs-requires-clause-other_sizes
add_runs-requires-clause-other_sizes c = subst HaveSmallSlopes (sym c.deref.ensures.value) (kept-slopes (the_view c.other.inside) c.other.invariant)

pub invariant_of-self : goal.invariant_of-self
invariant_of-self c =
    let f = the_view c.self.inside in
    let other = the_view c.other.inside in
    let new = c.add_runs.new.runs in
    sum-kept f other new.items c.steps_to-skipped.result _ (vec_capacity new) (added (goal.at.invariant_of-self c).After-add_runs) c.self.invariant c.other.invariant.rising
    c.add_runs.ensures.lengths
    (owed f c.args.self.now (value_at other) c.self.view_is
    (subst (λ (h : Steps). (p : ℤ) → IsPlace c.args.self.now p → IsSmall (value_at c.args.self.now p +ℤ value_at h p)) (sym c.other.view_is) c.requires.size))

pub returns-clause-last : goal.returns-clause-last
returns-clause-last c = grind (arith, ints, c)

pub returns-clause-value : goal.returns-clause-value
returns-clause-value c =
    let f = the_view c.self.inside in
    let new = c.add_runs.new.runs in
    let v = to_z w128 (of_z w128 (to_z w128 (of_z w128 c.self.inside.value) +ℤ to_z w128 (of_z w128 c.height.result))) in
    let g : Steps = record f { value = v; runs = new.items; room = vec_capacity new } in
    subst (λ (h : Steps). (p : ℤ) → IsPlace g p → value_at g p ≡ value_at c.args.self.now p +ℤ value_at h p) c.other.view_is
    (told f g c.args.self.now 0 (value_at (the_view c.other.inside)) c.self.view_is
    (sum-made f (the_view c.other.inside) new.items c.steps_to-skipped.result v (vec_capacity new) (added (goal.at.returns-clause-value c).After-add_runs)))
