-- The least value of a function, and where it has it.
use Rattle.std.proofs.Common.{◌≡◌, ◌↔◌, ℕ, ◌-◌, ◌<◌, ◌≤◌, ⊎_elim, sym, ap, ◌∙◌, arith, ℤ, pos, neg_ℤ, ◌+ℤ◌, ◌*ℤ◌, ◌≤ℤ◌}
use Rattle.std.proofs.lemmas.Bool.{cases_lt}
use Rattle.std.proofs.lemmas.Int.{ints}
use Rattle.uc_model.proofs.Common.{linear, mul-add, mul-neg, mul_comm}
use Rattle.step_functions.specs.Functions.{Steps, IsPlace, value_at}
use Rattle.step_functions.specs.inside.Edits.{AreBelow}
use Rattle.step_functions.specs.inside.Kept.{height}
use Rattle.step_functions.proofs.Heights.{falls, height-least, height-level, level-from, level-to, rises}
use Rattle.step_functions.proofs.Values.{steps_between, steps-within, place-steps, value_at-place}

pub bottom-least : (f : Steps) (m : ℕ) (v : ℤ) → AreBelow f.runs (pos 0) m → v ≡ height f.value f.runs m
    → (p : ℤ) → IsPlace f p → v ≤ℤ value_at f p
bottom-least f m v is value p place =
    let k = steps_between f.first p in
    let there = value_at-place f p k (place-steps f p place) in
    let least = height-least f.value f.runs m k is (steps-within f p place) in
    omega (arith, linear)

pub bottom-flat : (f : Steps) (m l : ℕ) (v a b : ℤ) → AreBelow f.runs (pos 0) m → AreBelow f.runs (pos 1) l
    → v ≡ height f.value f.runs m → a ≡ f.first +ℤ pos m → b ≡ f.first +ℤ pos l
    → (p : ℤ) → IsPlace f p → value_at f p ≡ v ↔ ((a ≤ℤ p) × (p ≤ℤ b))
bottom-flat f m l v a b is level value first last p place =
    let k = steps_between f.first p in
    let at = place-steps f p place in
    let there = value_at-place f p k at in
    let within = steps-within f p place in (
      λ e.
          let same = sym there ∙ e ∙ value in
          let from = level-from f.value f.runs m l k is level within same in
          let to = level-to f.value f.runs m l k is level within same in
          (omega (arith, linear), omega (arith, linear)),
      λ h.
          let from : m ≤ k = omega (arith, linear, h.0) in
          let to : k ≤ l = omega (arith, linear, h.1) in
          there ∙ height-level f.value f.runs m l k is level from to ∙ sym value,
    )

-- ---- with a slope added
-- what the slope adds between two places
apart : (slope a b : ℤ) (d : ℕ) → b ≡ a +ℤ pos d → slope *ℤ b ≡ slope *ℤ a +ℤ pos d *ℤ slope
apart slope a b d is = ap (λ x. slope *ℤ x) is ∙ mul-add slope a (pos d) ∙ ap (λ x. slope *ℤ a +ℤ x) (mul_comm slope (pos d))

-- the values are least behind the steps that still fall with it
pub turned-least : (f : Steps) (slope a : ℤ) (m : ℕ) → AreBelow f.runs (neg_ℤ slope) m → a ≡ f.first +ℤ pos m
    → (p : ℤ) → IsPlace f p → (value_at f a +ℤ slope *ℤ a) ≤ℤ (value_at f p +ℤ slope *ℤ p)
turned-least f slope a m is at p place =
    let k = steps_between f.first p in
    let there = place-steps f p place in
    let own = value_at-place f p k there in
    let here = value_at-place f a m at in
    let within = steps-within f p place in
    ⊎_elim
    (λ (less : k < m).
    let fall = falls f.value f.runs k m (neg_ℤ slope) (omega arith) (λ j from to. let u = is.below j (omega arith) in omega (arith, linear)) in
    let product = mul-neg (pos (m - k)) slope in
    let more = apart slope p a (m - k) (omega (arith, ints)) in
    omega (arith, linear))
    (λ (more : m ≤ k).
    let rise = rises f.value f.runs m k (neg_ℤ slope) more (λ j from to. is.next j from (omega arith)) in
    let product = mul-neg (pos (k - m)) slope in
    let more = apart slope a p (k - m) (omega (arith, ints)) in
    omega (arith, linear))
    (cases_lt k m)
