-- The first value is dearer by all that is short, and each step that is short cheaper.
use Rattle.std.proofs.Common.{◌≡◌, ◌+◌, ◌^◌, ◌<◌, min, false, sym, ap, subst, ◌∙◌, arith, lit<, ℤ, pos, neg_ℤ, ◌+ℤ◌, ◌*ℤ◌, FitsSigned, unsigned_abs, to_z, of_z, vec_capacity}
use Rattle.std.specs.Int.{w64, w128}
use Rattle.std.proofs.lemmas.Int.{ints, to_z-of_z}
use Rattle.uc_model.proofs.Common.{wide-size}
use lib.Signed.{le_z}
use Rattle.uc_model.proofs.Sizes.{wide}
use Rattle.step_functions.specs.contracts.function.ConvexFunction.{the_view}
use Rattle.step_functions.specs.Runs.{slope_at, steps_of}
use Rattle.step_functions.specs.Functions.{Steps, IsPlace, IsSmall, IsWithin, MAX_VALUE, shortfall, value_at}
use Rattle.step_functions.specs.inside.Edits.{IsSteeper}
use Rattle.step_functions.specs.inside.Kept.{IsKept}
use Rattle.step_functions.proofs.Values.{owed, owed-first, small-own, told}
use Rattle.step_functions.proofs.Changes.{kept-slopes}
use Rattle.step_functions.proofs.Shortfalls.{IsShort, behind-is, both-fit, difference-fits, price-small, short-is, shortfall-first, shortfall-kept, shortfall-made, step-within, turned-fits, turned-is, value-written, watts_short, watts_to}
use Rattle.step_functions.proofs.function.ConvexFunction.add_shortfall.Goals as goal
use Rattle.step_functions.proofs.function.ConvexFunction.add_shortfall.Goals.{After-add_run, After-min}

-- how short the first place is, and the first value that this makes, which stays small
record IsShortened (f : Steps) (place price : ℤ) : Type 0 where
  by : IsShort place f.first
  small : (p : ℤ) → IsPlace f p → IsSmall (value_at f p +ℤ price *ℤ shortfall place p)
  reached : IsSmall (f.value +ℤ price *ℤ pos (watts_short place f.first))
  is : to_z w128 (of_z w128 f.value) +ℤ to_z w128 (of_z w128 price) *ℤ watts_to place f.first ≡ f.value +ℤ price *ℤ pos (watts_short place f.first)

shortened : (f old : Steps) (place price : ℤ) → f ≡ old → IsKept f → IsWithin place → FitsSigned w128 price → le_z (to_z w64 (of_z w64 place)) (to_z w64 (of_z w64 f.first)) ≡ false
    → ((p : ℤ) → IsPlace old p → IsSmall (value_at old p +ℤ price *ℤ shortfall place p)) → IsShortened f place price
shortened f old place price same kept within fits more size =
    let by = short-is place f.first within kept.first (behind-is place f.first within kept.first more) in
    let extra : ℤ → ℤ = λ p. price *ℤ shortfall place p in
    record {
      by = by;
      small = owed f old extra same size;
      reached = subst (λ x. IsSmall (f.value +ℤ price *ℤ x)) (shortfall-first place f.first (watts_short place f.first) by.at) (owed-first f old extra same size);
      is = λ i. wide f.value MAX_VALUE (small-own f kept) (lit< tt) i +ℤ to_z-of_z w128 price fits i *ℤ by.is i;
    }

-- the steps that it makes cheaper
least : (c : After-min) → c.min.result ≡ min (steps_of c.self.inside.runs.items) (watts_short c.args.place c.self.inside.first)
least c = c.min.ensures ∙ ap (λ n. min n (watts_short c.args.place c.self.inside.first)) (c.steps.ensures ∙ ap steps_of c.deref.ensures.value)

steeper : (c : After-add_run) → IsSteeper c.self.inside.runs.items c.add_run.new.runs.items 0 c.min.result (neg_ℤ c.args.price)
steeper c = subst (λ s. IsSteeper c.self.inside.runs.items c.add_run.new.runs.items 0 c.min.result s) (turned-is c.args.price c.ranges.price c.requires.price) c.add_run.ensures.steeper

pub returns-then-place-self-clause-value : goal.returns-then-place-self-clause-value
returns-then-place-self-clause-value c = grind (arith, ints, c)

pub overflow_sub-short : goal.overflow_sub-short
overflow_sub-short c = difference-fits c.args.place c.self.inside.first c.requires.place c.self.invariant.first

pub along-self-inside-requires-clause-own : goal.along-self-inside-requires-clause-own
along-self-inside-requires-clause-own c = wide-size c.self.inside.value MAX_VALUE (small-own (the_view c.self.inside) c.self.invariant)

pub steps-requires : goal.steps-requires
steps-requires c = grind (arith, ints, c)

pub overflow_cast-short : goal.overflow_cast-short
overflow_cast-short c = grind (arith, ints, c)

pub overflow_sub-cheaper : goal.overflow_sub-cheaper
overflow_sub-cheaper c = turned-fits c.args.price c.ranges.price c.requires.price

pub add_run-requires-clause-within : goal.add_run-requires-clause-within
add_run-requires-clause-within c = grind (arith, ints, c)

pub along-self-inside-requires-clause-reached : goal.along-self-inside-requires-clause-reached
along-self-inside-requires-clause-reached c =
    let s = shortened (the_view c.self.inside) c.args.self.now c.args.place c.args.price c.self.view_is c.self.invariant c.requires.place c.ranges.price c.if-place-self.false c.requires.size in
    subst IsSmall (sym s.is) s.reached

pub add_run-requires-clause-sizes : goal.add_run-requires-clause-sizes
add_run-requires-clause-sizes c = λ k h.
    let f = the_view c.self.inside in
    let price = c.args.price in
    let s = shortened f c.args.self.now c.args.place price c.self.view_is c.self.invariant c.requires.place c.ranges.price c.if-place-self.false c.requires.size in
    let short = watts_short c.args.place f.first in
    let slope = kept-slopes f c.self.invariant (0 + k) (step-within k c.min.result (steps_of f.runs) short h (least (goal.at.add_run-requires-clause-sizes c).After-min)) in
    subst (λ s. unsigned_abs (slope_at f.runs (0 + k)) + unsigned_abs s < 2 ^ 127) (sym (turned-is price c.ranges.price c.requires.price))
    (both-fit (slope_at f.runs (0 + k)) price slope (price-small f.value price short s.by.some c.requires.price (small-own f c.self.invariant) s.reached))

pub invariant_of-self : goal.invariant_of-self
invariant_of-self c =
    let at = goal.at.invariant_of-self c in
    let f = the_view c.self.inside in
    let new = c.add_run.new.runs in
    let price = c.args.price in
    let s = shortened f c.args.self.now c.args.place price c.self.view_is c.self.invariant c.requires.place c.ranges.price c.if-place-self.false c.requires.size in
    let short = watts_short c.args.place f.first in
    shortfall-kept f c.args.place (to_z w128 (of_z w128 c.along-self-inside.result)) price new.items short c.min.result (vec_capacity new) s.by.at (least at.After-min)
    (value-written f.value c.along-self-inside.result price short (c.along-self-inside.ensures ∙ s.is) s.reached) (steeper at.After-add_run) c.requires.price c.add_run.ensures.lengths
    c.self.invariant s.small

pub returns-clause-last : goal.returns-clause-last
returns-clause-last c = grind (arith, ints, c)

pub returns-clause-value : goal.returns-clause-value
returns-clause-value c =
    let at = goal.at.returns-clause-value c in
    let f = the_view c.self.inside in
    let new = c.add_run.new.runs in
    let price = c.args.price in
    let s = shortened f c.args.self.now c.args.place price c.self.view_is c.self.invariant c.requires.place c.ranges.price c.if-place-self.false c.requires.size in
    let short = watts_short c.args.place f.first in
    let v = to_z w128 (of_z w128 c.along-self-inside.result) in
    told f (record f { value = v; runs = new.items; room = vec_capacity new }) c.args.self.now 0 (λ p. price *ℤ shortfall c.args.place p) c.self.view_is
    (shortfall-made f c.args.place v price new.items short c.min.result (vec_capacity new) s.by.at (least at.After-min)
    (value-written f.value c.along-self-inside.result price short (c.along-self-inside.ensures ∙ s.is) s.reached) (steeper at.After-add_run))
