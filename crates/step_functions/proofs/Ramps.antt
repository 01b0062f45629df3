-- The least values within a ramp: level steps stand between those that fall and those that don't.
use Rattle.std.proofs.Common.{◌≡◌, ℕ, ◌+◌, ◌-◌, ◌<◌, ◌≤◌, ⊎_elim, List, sym, ap, subst, ◌∙◌, arith, ℤ, pos, ◌+ℤ◌, ◌-ℤ◌, ◌≤ℤ◌, unsigned_abs, to_z, of_z}
use Rattle.std.specs.Int.{w64}
use Rattle.std.proofs.lemmas.Bool.{cases_lt}
use Rattle.std.proofs.lemmas.Int.{ints}
use Rattle.uc_model.proofs.Common.{linear, sum_below-same, sum_below-zero}
use Rattle.step_functions.specs.Runs.{Run, slope_at, steps_of}
use Rattle.step_functions.specs.Functions.{Steps, IsPlace, IsSmall, IsWithin, IsLeastBetween, last_place, value_at}
use Rattle.step_functions.specs.inside.Edits.{AreBelow, AreLevelled, IsSpread}
use Rattle.step_functions.specs.inside.Kept.{height, AreRising, HaveSteps, IsKept}
use Rattle.step_functions.proofs.Heights.{height-split, height-falls, height-rises, height-least}
use Rattle.step_functions.proofs.Values.{steps_between, steps-within, place-steps, is_place-steps, value_at-place, value_at-steps}

-- ---- the values with level steps put in behind the first m
near : (value : ℤ) (old new : List Run) (m w k : ℕ) → AreLevelled old new m w → k ≤ m → height value new k ≡ height value old k
near value old new m w k is h = grind (arith, ints, sum_below-same, is, h)

level : (value : ℤ) (old new : List Run) (m w d : ℕ) → AreLevelled old new m w → d ≤ w → height value new (m + d) ≡ height value old m
level value old new m w d is h =
    let before = near value old new m w m is (omega arith) in
    let whole = height-split value new m d in
    let none = sum_below-zero d (λ j. slope_at new (m + j)) (λ j l. is.level j (omega arith)) in
    omega (arith, linear)

far : (value : ℤ) (old new : List Run) (m w d : ℕ) → AreLevelled old new m w → height value new (m + w + d) ≡ height value old (m + d)
far value old new m w d is = grind (arith, ints, level, height-split, sum_below-same, is)

-- ---- from how many steps the least value within reach of j is taken
record IsBest (value : ℤ) (old new : List Run) (w j : ℕ) : Type 0 where
  from : ℕ
  within : from ≤ steps_of old
  after : from ≤ j
  before : j ≤ from + w
  value_is : height value new j ≡ height value old from
  least : (i : ℕ) → i ≤ steps_of old → i ≤ j → j ≤ i + w → height value old from ≤ℤ height value old i

best : (value : ℤ) (old new : List Run) (m w j : ℕ) → AreBelow old (pos 0) m → AreLevelled old new m w → j ≤ steps_of new → IsBest value old new w j
best value old new m w j below is h =
    let count = is.count in
    let last = below.within in
    ⊎_elim
    (λ (falling : j < m). record {
      from = j;
      within = omega arith;
      after = omega arith;
      before = omega arith;
      value_is = near value old new m w j is (omega arith);
      least = λ i l a b. height-falls value old m i j below a (omega arith);
    })
    (λ (rest : m ≤ j).
    ⊎_elim
    (λ (flat : j - m < w + 1).
    let there : m + (j - m) ≡ j = omega arith in
    record {
      from = m;
      within = last;
      after = rest;
      before = omega arith;
      value_is = subst (λ n. height value new n ≡ height value old m) there (level value old new m w (j - m) is (omega arith));
      least = λ i l a b. height-least value old m i below l;
    })
    (λ (rising : w + 1 ≤ j - m).
    let d = j - (m + w) in
    let there : m + w + d ≡ j = omega arith in
    let here : m + d ≡ j - w = omega arith in
    record {
      from = j - w;
      within = omega arith;
      after = omega arith;
      before = omega arith;
      value_is = subst (λ n. height value new n ≡ height value old (j - w)) there (far value old new m w d is ∙ ap (height value old) here);
      least = λ i l a b. height-rises value old m (j - w) i below (omega arith) (omega arith) l;
    })
    (cases_lt (j - m) (w + 1)))
    (cases_lt j m)

-- ---- numbers as their bits
pub first-is : (first down : ℤ) → IsWithin first → IsWithin (first -ℤ down) → to_z w64 (of_z w64 (to_z w64 (of_z w64 first) -ℤ to_z w64 (of_z w64 down))) ≡ first -ℤ down
first-is first down low new_low = grind (arith, ints, low, new_low)

-- ---- of a function
pub record IsRamped (f g : Steps) (w : ℕ) (up down : ℤ) : Type 0 where
  pub spread : IsSpread f.runs g.runs w
  pub first : g.first ≡ f.first -ℤ down
  pub value : g.value ≡ f.value
  pub width : up +ℤ down ≡ pos w

-- the width as it is computed
abbrev pub the_width : ℤ → ℤ → ℕ
the_width up down = unsigned_abs (to_z w64 (of_z w64 (to_z w64 (of_z w64 up) +ℤ to_z w64 (of_z w64 down))))

pub ramped : (f g : Steps) (up down : ℤ) → pos 0 ≤ℤ up → pos 0 ≤ℤ down → IsKept f → IsWithin (f.first -ℤ down) → IsWithin (last_place f +ℤ up)
    → g.first ≡ f.first -ℤ down → g.value ≡ f.value → IsSpread f.runs g.runs (the_width up down) → IsRamped f g (the_width up down) up down
ramped f g up down a b kept low high first value spread = grind (arith, ints, a, b, kept, low, high, spread)

pub ramp-last : (f g : Steps) (w : ℕ) (up down : ℤ) → IsRamped f g w up down → last_place g ≡ last_place f +ℤ up
ramp-last f g w up down is =
    let first = is.first in
    let width = is.width in
    let count = is.spread.levelled.count in
    omega (arith, ints)

best_of : (f g : Steps) (w : ℕ) (up down : ℤ) → IsRamped f g w up down → (j : ℕ) → j ≤ steps_of g.runs → IsBest f.value f.runs g.runs w j
best_of f g w up down is j h = best f.value f.runs g.runs is.spread.before w j is.spread.falling is.spread.levelled h

height-ramped : (f g : Steps) (w : ℕ) (up down : ℤ) (is : IsRamped f g w up down) (j : ℕ) (h : j ≤ steps_of g.runs)
    → height g.value g.runs j ≡ height f.value f.runs (best_of f g w up down is j h).from
height-ramped f g w up down is j h = ap (λ v. height v g.runs j) is.value ∙ (best_of f g w up down is j h).value_is

pub ramp-least : (f g : Steps) (w : ℕ) (up down : ℤ) → IsRamped f g w up down → (p : ℤ) → IsPlace g p
    → IsLeastBetween f (p -ℤ up) (p +ℤ down) (value_at g p)
ramp-least f g w up down is p place =
    let j = steps_between g.first p in
    let at = place-steps g p place in
    let within = steps-within g p place in
    let b = best_of f g w up down is j within in
    let first = is.first in
    let width = is.width in
    let after = b.after in
    let before = b.before in
    record {
      place = f.first +ℤ pos b.from;
      is_place = is_place-steps f b.from b.within;
      after = omega (arith, ints);
      before = omega (arith, ints);
      reached = value_at-place g p j at ∙ height-ramped f g w up down is j within ∙ sym (value_at-steps f b.from);
      least = λ q own low high.
          let i = steps_between f.first q in
          let there = place-steps f q own in
          let under = b.least i (steps-within f q own) (omega (arith, ints)) (omega (arith, ints)) in
          let a = value_at-place g p j at ∙ height-ramped f g w up down is j within in
          let e = value_at-place f q i there in
          omega (arith, linear);
    }

-- the slopes rise over 0
ramp-rising : (old new : List Run) (m w : ℕ) → AreBelow old (pos 0) m → AreLevelled old new m w → AreRising old → AreRising new
ramp-rising old new m w below is rising j k h l =
    let count = is.count in
    ⊎_elim
    (λ (falling : k < m).
    let a = is.front j (omega arith) in
    let b = is.front k falling in
    let up = rising j k h (omega (arith, below.within)) in
    omega (arith, linear))
    (λ (rest : m ≤ k).
    ⊎_elim
    (λ (less : j < m).
    let a = is.front j less in
    let sign = below.below j less in
    let high = not_below k rest l in
    omega (arith, linear))
    (λ (more : m ≤ j).
    ⊎_elim
    (λ (flat : j - m < w).
    let there : m + (j - m) ≡ j = omega arith in
    let a : slope_at new j ≡ pos 0 = subst (λ n. slope_at new n ≡ pos 0) there (is.level (j - m) flat) in
    let high = not_below k rest l in
    omega (arith, linear))
    (λ (far : w ≤ j - m).
    let a = far_slope j (omega arith) in
    let b = far_slope k (omega arith) in
    let up = rising (j - w) (k - w) (omega arith) (omega arith) in
    omega (arith, linear))
    (cases_lt (j - m) w))
    (cases_lt j m))
    (cases_lt k m)
  where
    far_slope : (i : ℕ) → m + w ≤ i → slope_at new i ≡ slope_at old (i - w)
    far_slope i h =
        let there : m + w + (i - (m + w)) ≡ i = omega arith in
        let here : m + (i - (m + w)) ≡ i - w = omega arith in
        subst (λ n. slope_at new n ≡ slope_at old (i - w)) there (is.back (i - (m + w)) ∙ ap (slope_at old) here)

    not_below : (i : ℕ) → m ≤ i → i < steps_of new → pos 0 ≤ℤ slope_at new i
    not_below i h inside = ⊎_elim
        (λ (flat : i - m < w).
        let there : m + (i - m) ≡ i = omega arith in
        let a : slope_at new i ≡ pos 0 = subst (λ n. slope_at new n ≡ pos 0) there (is.level (i - m) flat) in
        omega (arith, linear))
        (λ (far : w ≤ i - m).
        let a = far_slope i (omega arith) in
        let high = below.next (i - w) (omega arith) (omega (arith, is.count)) in
        omega (arith, linear))
        (cases_lt (i - m) w)

pub ramp-kept : (f g : Steps) (w : ℕ) (up down : ℤ) → IsRamped f g w up down → IsKept f → HaveSteps g.runs → IsWithin g.first → IsWithin (last_place g) → IsKept g
ramp-kept f g w up down is kept lengths first last = record {
  steps = lengths;
  rising = ramp-rising f.runs g.runs is.spread.before w is.spread.falling is.spread.levelled kept.rising;
  first = first;
  last = last;
  values = λ j h.
      subst IsSmall (sym (height-ramped f g w up down is j h))
      (kept.values (best_of f g w up down is j h).from (best_of f g w up down is j h).within);
}
