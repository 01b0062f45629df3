-- The values of a function at its places, by how many steps these lie from the first one.
use Rattle.std.proofs.Common.{◌≡◌, ℕ, ◌+◌, ◌≤◌, sym, ap, subst, ◌∙◌, arith, ℤ, pos, ◌+ℤ◌, ◌-ℤ◌, unsigned_abs}
use Rattle.std.proofs.lemmas.Int.{ints}
use Rattle.uc_model.specs.Prelude.{sum_below}
use Rattle.step_functions.specs.Runs.{slope_at, steps_of}
use Rattle.step_functions.specs.Functions.{Steps, IsPlace, IsSmall, value_at}
use Rattle.step_functions.specs.inside.Kept.{height, AreRising, AreSmall, HaveSteps, IsKept}

abbrev pub steps_between : ℤ → ℤ → ℕ
steps_between first p = unsigned_abs (p -ℤ first)

pub steps-within : (f : Steps) (p : ℤ) → IsPlace f p → steps_between f.first p ≤ steps_of f.runs
steps-within f p is = let low = is.low in let high = is.high in omega (arith, ints)

pub place-steps : (f : Steps) (p : ℤ) → IsPlace f p → p ≡ f.first +ℤ pos (steps_between f.first p)
place-steps f p is = let low = is.low in omega (arith, ints)

pub is_place-steps : (f : Steps) (k : ℕ) → k ≤ steps_of f.runs → IsPlace f (f.first +ℤ pos k)
is_place-steps f k h = record { low = omega (arith, ints); high = omega (arith, ints) }

pub value_at-steps : (f : Steps) (k : ℕ) → value_at f (f.first +ℤ pos k) ≡ height f.value f.runs k
unfolding value_at
value_at-steps f k =
    let same : unsigned_abs (f.first +ℤ pos k -ℤ f.first) ≡ k = omega (arith, ints) in
    ap (λ n. f.value +ℤ sum_below n (slope_at f.runs)) same

pub value_at-place : (f : Steps) (p : ℤ) (k : ℕ) → p ≡ f.first +ℤ pos k → value_at f p ≡ height f.value f.runs k
value_at-place f p k is = ap (value_at f) is ∙ value_at-steps f k

-- ---- a function made of another one: it begins a steps later, and has the values of another besides
pub record IsMadeOf (f g : Steps) (a : ℕ) (more : ℤ → ℤ) : Type 0 where
  pub first : g.first ≡ f.first +ℤ pos a
  pub within : a + steps_of g.runs ≤ steps_of f.runs
  pub heights : (k : ℕ) → k ≤ steps_of g.runs → height g.value g.runs k ≡ height f.value f.runs (a + k) +ℤ more (g.first +ℤ pos k)

made-value : (f g : Steps) (a k : ℕ) (more : ℤ → ℤ) → IsMadeOf f g a more → k ≤ steps_of g.runs
    → height g.value g.runs k ≡ value_at f (g.first +ℤ pos k) +ℤ more (g.first +ℤ pos k)
made-value f g a k more made h = grind (arith, ints, value_at-place, made, h)

pub values-made : (f g : Steps) (a : ℕ) (more : ℤ → ℤ) → IsMadeOf f g a more → (p : ℤ) → IsPlace g p → value_at g p ≡ value_at f p +ℤ more p
values-made f g a more made p is =
    let k = steps_between g.first p in
    value_at-place g p k (place-steps g p is)
    ∙ made-value f g a k more made (steps-within g p is)
    ∙ ap (λ q. value_at f q +ℤ more q) (sym (place-steps g p is))

pub small-made : (f g : Steps) (a : ℕ) (more : ℤ → ℤ) → IsMadeOf f g a more
    → ((p : ℤ) → IsPlace f p → IsPlace g p → IsSmall (value_at f p +ℤ more p)) → AreSmall g.value g.runs
small-made f g a more made small k h = grind (arith, ints, is_place-steps, made-value, made, small, k, h)

-- ---- at the first place
pub is_place-first : (f : Steps) → IsPlace f f.first
is_place-first f = record { low = omega (arith, ints); high = omega (arith, ints) }

pub value_at-first : (f : Steps) → value_at f f.first ≡ f.value
value_at-first f =
    let first : f.first ≡ f.first +ℤ pos 0 = omega (arith, ints) in
    let none : f.value +ℤ pos 0 ≡ f.value = omega (arith, ints) in
    value_at-place f f.first 0 first ∙ none

pub small-first : (f : Steps) (more : ℤ → ℤ) → ((p : ℤ) → IsPlace f p → IsSmall (value_at f p +ℤ more p)) → IsSmall (f.value +ℤ more f.first)
small-first f more small = subst (λ x. IsSmall (x +ℤ more f.first)) (value_at-first f) (small f.first (is_place-first f))

-- ---- at what contracts see of a function
-- what the caller owes, of the value behind the fields
pub owed : (f old : Steps) (more : ℤ → ℤ) → f ≡ old → ((p : ℤ) → IsPlace old p → IsSmall (value_at old p +ℤ more p)) → (p : ℤ) → IsPlace f p → IsSmall (value_at f p +ℤ more p)
owed f old more same small = subst (λ (f : Steps). (p : ℤ) → IsPlace f p → IsSmall (value_at f p +ℤ more p)) (sym same) small

pub owed-first : (f old : Steps) (more : ℤ → ℤ) → f ≡ old → ((p : ℤ) → IsPlace old p → IsSmall (value_at old p +ℤ more p)) → IsSmall (f.value +ℤ more f.first)
owed-first f old more same small = small-first f more (owed f old more same small)

-- and what it is told
pub told : (f g old : Steps) (a : ℕ) (more : ℤ → ℤ) → f ≡ old → IsMadeOf f g a more → (p : ℤ) → IsPlace g p → value_at g p ≡ value_at old p +ℤ more p
told f g old a more same made = subst (λ (old : Steps). (p : ℤ) → IsPlace g p → value_at g p ≡ value_at old p +ℤ more p) same (values-made f g a more made)

-- ---- what keeps to the limits
pub made-in_place : (f g : Steps) (more : ℤ → ℤ) → g.first ≡ f.first → steps_of g.runs ≤ steps_of f.runs
    → ((k : ℕ) → k ≤ steps_of g.runs → height g.value g.runs k ≡ height f.value f.runs k +ℤ more (g.first +ℤ pos k))
    → IsMadeOf f g 0 more
made-in_place f g more first within heights = grind (arith, ints, within, heights)

pub kept-made : (f g : Steps) (a : ℕ) (more : ℤ → ℤ) → IsKept f → IsMadeOf f g a more → HaveSteps g.runs → AreRising g.runs
    → ((p : ℤ) → IsPlace f p → IsPlace g p → IsSmall (value_at f p +ℤ more p)) → IsKept g
kept-made f g a more kept made steps rising small =
    let low = kept.first in
    let high = kept.last in
    let first = made.first in
    let within = made.within in
    record {
      steps = steps;
      rising = rising;
      first = omega (arith, ints);
      last = omega (arith, ints);
      values = small-made f g a more made small;
    }

pub small-own : (f : Steps) → IsKept f → IsSmall f.value
small-own f kept = let own = kept.values 0 (omega arith) in omega (arith, ints)
