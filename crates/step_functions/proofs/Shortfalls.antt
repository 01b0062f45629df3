-- A price for each watt that a place lies below another: the first steps are cheaper by it, and the first value dearer.
use Rattle.std.proofs.Common.{◌≡◌, ℕ, ◌+◌, ◌-◌, ◌*◌, ◌^◌, ◌<◌, ◌≤◌, min, ◌⊎◌, inl, inr, ⊎_elim, List, refl, sym, ap, subst, ◌∙◌, arith, lit<, ℤ, pos, neg_ℤ, ◌+ℤ◌, ◌-ℤ◌, ◌*ℤ◌, ◌<ℤ◌, ◌≤ℤ◌, to_z, of_z, unsigned_abs, FitsSigned, false}
use lib.Signed.{le_z}
use Rattle.std.specs.Int.{w64, w128}
use Rattle.std.proofs.lemmas.Bool.{cases_lt}
use Rattle.std.proofs.lemmas.Int.{ints, clamps, fits_signed_from_abs}
use Rattle.uc_model.specs.Prelude.{sum_below}
use Rattle.uc_model.proofs.Common.{linear, mul-add, mul-zero, mul-neg, mul_comm, sum_below-same, sum_below-split}
use Rattle.uc_model.proofs.Sizes.{wide}
use Rattle.step_functions.specs.Runs.{Run, slope_at, steps_of}
use Rattle.step_functions.specs.Functions.{Steps, IsPlace, IsSmall, IsWithin, value_at, shortfall, MAX_VALUE}
use Rattle.step_functions.specs.inside.Edits.{IsSteeper}
use Rattle.step_functions.specs.inside.Kept.{HaveSteps, IsKept}
use Rattle.step_functions.proofs.Changes.{sum-steeper}
use Rattle.step_functions.proofs.Values.{IsMadeOf, made-in_place, kept-made}

-- ---- the first steps, so many
steeper-front : (old new : List Run) (count k : ℕ) (slope : ℤ) → IsSteeper old new 0 count slope → k < count → slope_at new k ≡ slope_at old k +ℤ slope
steeper-front old new count k slope is h =
    let same : 0 + k ≡ k = omega arith in
    subst (λ i. slope_at new i ≡ slope_at old i +ℤ slope) same (is.part k h)

steeper-back : (old new : List Run) (count k : ℕ) (slope : ℤ) → IsSteeper old new 0 count slope → count ≤ k → slope_at new k ≡ slope_at old k
steeper-back old new count k slope is h =
    let same : 0 + count + (k - count) ≡ k = omega arith in
    subst (λ i. slope_at new i ≡ slope_at old i) same (is.back (k - count))

sum-front : (old new : List Run) (count k : ℕ) (slope : ℤ) → IsSteeper old new 0 count slope → k ≤ count
    → sum_below k (slope_at new) ≡ sum_below k (slope_at old) +ℤ pos k *ℤ slope
sum-front old new count k slope is h = sum-steeper (slope_at old) (slope_at new) slope k (λ j l. steeper-front old new count j slope is (omega arith))

sum-behind : (old new : List Run) (count k : ℕ) (slope : ℤ) → IsSteeper old new 0 count slope → count ≤ k
    → sum_below k (slope_at new) ≡ sum_below k (slope_at old) +ℤ pos count *ℤ slope
sum-behind old new count k slope is h =
    let d = k - count in
    let there : count + d ≡ k = omega arith in
    let before = sum-front old new count count slope is (omega arith) in
    let a = sum_below-split count d (slope_at new) in
    let b = sum_below-split count d (slope_at old) in
    let same = sum_below-same d (λ j. slope_at new (count + j)) (λ j. slope_at old (count + j)) (λ j l. steeper-back old new count (count + j) slope is (omega arith)) in
    subst (λ n. sum_below n (slope_at new) ≡ sum_below n (slope_at old) +ℤ pos count *ℤ slope) there (omega (arith, linear))

-- ---- how much a place lacks
pub shortfall-first : (place first : ℤ) (short : ℕ) → place ≡ first +ℤ pos short → shortfall place first ≡ pos short
shortfall-first place first short is = omega (arith, ints, clamps)

shortfall-below : (place first : ℤ) (short k : ℕ) → place ≡ first +ℤ pos short → k ≤ short → shortfall place (first +ℤ pos k) ≡ pos (short - k)
shortfall-below place first short k is h = omega (arith, ints, clamps)

shortfall-above : (place p : ℤ) → place ≤ℤ p → shortfall place p ≡ pos 0
shortfall-above place p h = omega (arith, ints, clamps)

pub nothing-short : (place p price : ℤ) → place ≤ℤ p → price *ℤ shortfall place p ≡ pos 0
nothing-short place p price h = ap (λ x. price *ℤ x) (shortfall-above place p h) ∙ mul-zero price

-- ---- what it makes of a function
pub shortfall-made : (f : Steps) (place v price : ℤ) (runs : List Run) (short count room : ℕ) → place ≡ f.first +ℤ pos short → count ≡ min (steps_of f.runs) short
    → v ≡ f.value +ℤ price *ℤ pos short → IsSteeper f.runs runs 0 count (neg_ℤ price)
    → IsMadeOf f (record f { value = v; runs = runs; room = room }) 0 (λ p. price *ℤ shortfall place p)
shortfall-made f place v price runs short count room at least is steeper =
    let total = steeper.total in
    made-in_place f (record f { value = v; runs = runs; room = room }) (λ p. price *ℤ shortfall place p) refl (omega arith) (λ k h.
    ⊎_elim
    (λ (less : k ≤ count).
    let sum = sum-front f.runs runs count k (neg_ℤ price) steeper less in
    let lack = ap (λ x. price *ℤ x) (shortfall-below place f.first short k at (omega arith)) in
    let parts = mul-add price (pos k) (pos (short - k)) in
    let whole : pos k +ℤ pos (short - k) ≡ pos short = omega (arith, ints) in
    let spread_out = ap (λ x. price *ℤ x) whole in
    let negative = mul-neg (pos k) price in
    let turned = mul_comm price (pos k) in
    omega (arith, linear))
    (λ (more : count < k).
    let all : count ≡ short = omega arith in
    let sum = sum-behind f.runs runs count k (neg_ℤ price) steeper (omega arith) in
    let past : place ≤ℤ (f.first +ℤ pos k) = omega (arith, ints) in
    let lack = nothing-short place (f.first +ℤ pos k) price past in
    let negative = mul-neg (pos count) price in
    let turned = mul_comm price (pos count) in
    let same = ap (λ n. price *ℤ pos n) all in
    omega (arith, linear))
    (le_cases k count))
  where
    le_cases : (k n : ℕ) → (k ≤ n) ⊎ (n < k)
    le_cases k n = ⊎_elim (λ (h : n < k). inr h) (λ (h : k ≤ n). inl h) (cases_lt n k)

pub shortfall-kept : (f : Steps) (place v price : ℤ) (runs : List Run) (short count room : ℕ) → place ≡ f.first +ℤ pos short → count ≡ min (steps_of f.runs) short
    → v ≡ f.value +ℤ price *ℤ pos short → IsSteeper f.runs runs 0 count (neg_ℤ price) → pos 0 ≤ℤ price → HaveSteps runs → IsKept f
    → ((p : ℤ) → IsPlace f p → IsSmall (value_at f p +ℤ price *ℤ shortfall place p)) → IsKept (record f { value = v; runs = runs; room = room })
shortfall-kept f place v price runs short count room at least is steeper sign lengths kept small =
    kept-made f (record f { value = v; runs = runs; room = room }) 0 (λ p. price *ℤ shortfall place p) kept (shortfall-made f place v price runs short count room at least is steeper)
    lengths
    (λ j k h l.
    let total = steeper.total in
    let up = kept.rising j k h (omega arith) in
    ⊎_elim
    (λ (front : k < count).
    let a = steeper-front f.runs runs count j (neg_ℤ price) steeper (omega arith) in
    let b = steeper-front f.runs runs count k (neg_ℤ price) steeper front in
    omega (arith, linear))
    (λ (back : count ≤ k).
    let b = steeper-back f.runs runs count k (neg_ℤ price) steeper back in
    ⊎_elim
    (λ (less : j < count). let a = steeper-front f.runs runs count j (neg_ℤ price) steeper less in omega (arith, linear))
    (λ (more : count ≤ j). let a = steeper-back f.runs runs count j (neg_ℤ price) steeper more in omega (arith, linear))
    (cases_lt j count))
    (cases_lt k count))
    (λ p place own. small p place)

-- a price of a watt or more that keeps the value small is small
pub price-small : (value price : ℤ) (short : ℕ) → 1 ≤ short → pos 0 ≤ℤ price → IsSmall value → IsSmall (value +ℤ price *ℤ pos short)
    → unsigned_abs price ≤ 2 * MAX_VALUE
price-small value price short some sign own reached = grind (arith, ints, some, sign, own, reached)

-- ---- what is computed, as its bits say it
abbrev pub watts_to : ℤ → ℤ → ℤ
watts_to place first = to_z w64 (of_z w64 (to_z w64 (of_z w64 place) -ℤ to_z w64 (of_z w64 first)))

abbrev pub watts_short : ℤ → ℤ → ℕ
watts_short place first = unsigned_abs (watts_to place first)

-- a place behind the first one lies so many watts behind it
pub record IsShort (place first : ℤ) : Type 0 where
  pub at : place ≡ first +ℤ pos (watts_short place first)
  pub is : watts_to place first ≡ pos (watts_short place first)
  pub some : 1 ≤ watts_short place first

-- the parts of a difference above 0
parts : (place first watts : ℤ) → first <ℤ place → watts ≡ place -ℤ first
    → (place ≡ first +ℤ pos (unsigned_abs watts)) × ((watts ≡ pos (unsigned_abs watts)) × (1 ≤ unsigned_abs watts))
parts place first watts less is = (omega (arith, ints), (omega (arith, ints), omega (arith, ints)))

pub short-is : (place first : ℤ) → IsWithin place → IsWithin first → first <ℤ place → IsShort place first
short-is place first within low less = grind (arith, ints, within, low, less)

pub difference-fits : (place first : ℤ) → IsWithin place → IsWithin first → FitsSigned w64 (to_z w64 (of_z w64 place) -ℤ to_z w64 (of_z w64 first))
difference-fits place first within low = grind (arith, ints, within, low)

-- the test that it is behind
pub behind-is : (place first : ℤ) → IsWithin place → IsWithin first → le_z (to_z w64 (of_z w64 place)) (to_z w64 (of_z w64 first)) ≡ false → first <ℤ place
behind-is place first within low more = grind (arith, ints, within, low, more)

-- the price with the other sign
pub turned-fits : (price : ℤ) → FitsSigned w128 price → pos 0 ≤ℤ price → FitsSigned w128 (pos 0 -ℤ to_z w128 (of_z w128 price))
turned-fits price fits sign = fits_signed_from_abs w128 (pos 0 -ℤ to_z w128 (of_z w128 price)) (omega (arith, ints))

pub turned-is : (price : ℤ) → FitsSigned w128 price → pos 0 ≤ℤ price → to_z w128 (of_z w128 (pos 0 -ℤ to_z w128 (of_z w128 price))) ≡ neg_ℤ price
turned-is price fits sign = grind (arith, ints, fits, sign)

pub both-fit : (slope price : ℤ) → unsigned_abs slope ≤ 2 * MAX_VALUE → unsigned_abs price ≤ 2 * MAX_VALUE → unsigned_abs slope + unsigned_abs (neg_ℤ price) < 2 ^ 127
both-fit slope price small own = omega (arith, ints)

-- a step of the first ones, of which there are no more than all
pub step-within : (k count all short : ℕ) → k < count → count ≡ min all short → 0 + k < all
step-within k count all short h least = omega arith

-- the first value, which stays small
pub value-written : (value reached price : ℤ) (short : ℕ) → reached ≡ value +ℤ price *ℤ pos short → IsSmall (value +ℤ price *ℤ pos short)
    → to_z w128 (of_z w128 reached) ≡ value +ℤ price *ℤ pos short
value-written value reached price short is small = wide reached MAX_VALUE (subst IsSmall (sym is) small) (lit< tt) ∙ is
