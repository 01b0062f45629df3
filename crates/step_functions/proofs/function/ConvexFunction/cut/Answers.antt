-- Cut on both sides, each value is as it was. The places are compared by their bits, which say them.
use Rattle.std.proofs.Common.{◌≡◌, ℕ, true, false, refl, sym, subst, ◌∙◌, arith, ℤ, pos, ◌+ℤ◌, ◌≤ℤ◌, to_z, of_z}
use lib.Signed.{lt_z}
use Rattle.std.specs.Int.{w64, int_max, int_min}
use Rattle.std.proofs.lemmas.Bool.{false≢true, true≢false}
use Rattle.std.proofs.lemmas.Int.{ints, clamps}
use Rattle.step_functions.specs.Functions.{IsWithin, last_place}
use Rattle.step_functions.proofs.function.ConvexFunction.cut.Goals as goal
use Rattle.step_functions.proofs.function.ConvexFunction.cut.Goals.{After-last-last, After-max, After-min}

-- ---- what the comparisons say
-- the ends of a function, as they are read
record AreEnds (f l first last low high : ℤ) : Type 0 where
  pub first_is : first ≡ f
  pub last_is : last ≡ l
  pub first_within : IsWithin first
  pub last_within : IsWithin last
  pub low_within : IsWithin low
  pub high_within : IsWithin high

ends : (c : After-last-last) → AreEnds c.args.self.now.first (last_place c.args.self.now) c.first-first.result c.last-last.result c.args.low c.args.high
ends c = grind (arith, ints)

-- it has a place between
meets : (f l first last low high : ℤ) → AreEnds f l first last low high → lt_z (to_z w64 (of_z w64 high)) (to_z w64 (of_z w64 low)) ≡ false
    → lt_z (to_z w64 (of_z w64 high)) (to_z w64 (of_z w64 first)) ≡ false → lt_z (to_z w64 (of_z w64 last)) (to_z w64 (of_z w64 low)) ≡ false
    → (low ≤ℤ high) × (f ≤ℤ high) × (low ≤ℤ l)
meets f l first last low high ends a b c = grind (arith, ints, ends, a, b, c)

-- ---- the ends that are cut
right : (c : After-min) → to_z w64 (of_z w64 c.min.result) ≡ int_min (last_place c.args.self.now) c.args.high
right c = grind (arith, ints)

left : (c : After-max) → to_z w64 (of_z w64 c.max.result) ≡ int_max c.args.self.now.first c.args.low
left c = grind (arith, ints)

left-low : (f low : ℤ) → f ≤ℤ int_max f low
left-low f low = omega (arith, ints, clamps)

left-high : (f l low high : ℤ) (n : ℕ) → l ≡ f +ℤ pos n → low ≤ℤ high → f ≤ℤ high → low ≤ℤ l → int_max f low ≤ℤ int_min l high
left-high f l low high n is a b c = omega (arith, ints, clamps)

-- ---- none between
pub returns-then-high-low-clause-some : goal.returns-then-high-low-clause-some
returns-then-high-low-clause-some c = grind (arith, ints, c)

pub returns-then-high-low-clause-first : goal.returns-then-high-low-clause-first
returns-then-high-low-clause-first c = λ t. absurd (false≢true t)

pub returns-then-high-low-clause-last : goal.returns-then-high-low-clause-last
returns-then-high-low-clause-last c = λ t. absurd (false≢true t)

-- ---- all between
pub returns-then-last-high-clause-some : goal.returns-then-last-high-clause-some
returns-then-last-high-clause-some c = (λ t. meets _ _ _ _ _ _ (ends (goal.at.returns-then-last-high-clause-some c).After-last-last) c.if-high-low.false c.if-high-first.false c.if-last-low.false, λ h. refl)

pub returns-then-last-high-clause-first : goal.returns-then-last-high-clause-first
returns-then-last-high-clause-first c = grind (arith, ints, c)

pub returns-then-last-high-clause-last : goal.returns-then-last-high-clause-last
returns-then-last-high-clause-last c = grind (arith, ints, c)

-- ---- cut
pub cut_right-requires-clause-place : goal.cut_right-requires-clause-place
cut_right-requires-clause-place c = grind (arith, ints, c)

pub cut_left-requires-clause-place : goal.cut_left-requires-clause-place
cut_left-requires-clause-place c =
    let at = goal.at.cut_left-requires-clause-place c in
    let f = c.args.self.now.first in
    let l = last_place c.args.self.now in
    let some = meets _ _ _ _ _ _ (ends at.After-last-last) c.if-high-low.false c.if-high-first.false c.if-last-low.false in
    let is = sym (left at.After-max) in
    record {
      low = subst (λ z. z ≤ℤ to_z w64 (of_z w64 c.max.result)) (sym c.cut_right.ensures.first) (subst (λ z. f ≤ℤ z) is (left-low f c.args.low));
      high = subst (λ z. to_z w64 (of_z w64 c.max.result) ≤ℤ z) (sym (c.cut_right.ensures.last ∙ right at.After-min))
          (subst (λ z. z ≤ℤ int_min l c.args.high) is (left-high f l c.args.low c.args.high _ refl some.0 some.1 some.2));
    }

pub returns-clause-some : goal.returns-clause-some
returns-clause-some c = (λ t. meets _ _ _ _ _ _ (ends (goal.at.returns-clause-some c).After-last-last) c.if-high-low.false c.if-high-first.false c.if-last-low.false, λ h. refl)

pub returns-clause-none : goal.returns-clause-none
returns-clause-none c = λ e. absurd (true≢false e)

pub returns-clause-first : goal.returns-clause-first
returns-clause-first c = λ t. c.cut_left.ensures.first ∙ left (goal.at.returns-clause-first c).After-max

pub returns-clause-last : goal.returns-clause-last
returns-clause-last c = λ t. c.cut_left.ensures.last ∙ c.cut_right.ensures.last ∙ right (goal.at.returns-clause-last c).After-min

pub returns-clause-value : goal.returns-clause-value
returns-clause-value c = grind (arith, ints, c)
