-- A run that goes on, hour by hour.
use Rattle.std.proofs.Common.{◌≡◌, ℕ, zero, suc, ◌+◌, ◌-◌, ◌*◌, ◌<◌, ◌≤◌, ◌==◌, Bool, true, false, refl, sym, ap, subst, ◌∙◌, arith, ℤ, Option}
use Rattle.std.proofs.lemmas.Bool.{eq-eqb, eqb-true, eqb-false, ne_eqb}
use Rattle.uc_model.specs.Prelude.{cell_cap}
use Rattle.step_functions.specs.Functions.{Steps, run_count}
use Rattle.hull_function.specs.Hulls.{IsBounded}
use Rattle.hull_function.proofs.Represented.{copied, copy-bounded}
use Rattle.hull_function.specs.Hours.{IsCostsOf, IsNear, MAX_HOUR}
use Rattle.unit_runs.specs.CostThrough.{cost_through, hour_after, run_cost}
use Rattle.unit_runs.specs.Runs.{hour_cap}
use Rattle.unit_exact.specs.inside.Running.{least_ending}
use Rattle.unit_exact.specs.inside.Problems.{Table, Thermal, MAX_SWITCH}

-- the last hour alone is told from the others
module _ (periods : ℕ) (table : Table) (unit : Thermal) (from : ℕ) where
  cap_same : (h k n : ℕ) → suc n < h → suc n < k → hour_cap periods unit from h n ≡ hour_cap periods unit from k n
  cap_same h k n l m =
      ap (cell_cap periods unit (from + n) (n == 0))
      (ne_eqb (suc n) h (λ e. omega (arith, l, e)) ∙ sym (ne_eqb (suc n) k (λ e. omega (arith, m, e))))

  pub through-same : (h k n : ℕ) → n < h → n < k → cost_through periods table unit from h n ≡ cost_through periods table unit from k n
  through-same h k zero l m = refl
  through-same h k (suc n) l m =
      let cap = cap_same h k n l m in
      let before = through-same h k n (omega (arith, l)) (omega (arith, m)) in
      λ i p. hour_after table unit (from + n) (cap i) (before i) p

  -- the cap of the hour in period t
  hour_first : (t : ℕ) → from ≤ t → (t == from) ≡ ((t - from) == 0)
  hour_first t order = by (t == from) refl
    where
      by : (b : Bool) → (t == from) ≡ b → (t == from) ≡ ((t - from) == 0)
      by true e = e ∙ sym (eq-eqb (t - from) 0 (let same = eqb-true t from e in omega (arith, same)))
      by false e = e ∙ sym (ne_eqb (t - from) 0 (λ none. eqb-false t from e (omega (arith, none, order))))

  pub hour-cap : (t hours : ℕ) (last : Bool) → from ≤ t → (suc (t - from) == hours) ≡ last
      → cell_cap periods unit t (t == from) last ≡ hour_cap periods unit from hours (t - from)
  hour-cap t hours last order is =
      let at : t ≡ from + (t - from) = omega (arith, order) in
      let first = hour_first t order in
      let back = sym is in
      λ i. cell_cap periods unit (at i) (first i) (back i)

  -- the costs with the hour in period t, of a run that goes on and of one that ends
  pub through-more : (t : ℕ) (cap : ℤ) → from ≤ t → cap ≡ cell_cap periods unit t (t == from) false
      → hour_after table unit t cap (cost_through periods table unit from (suc (t - from)) (t - from))
      ≡ cost_through periods table unit from (suc (suc (t - from))) (suc (t - from))
  through-more t cap order is =
      let at : t ≡ from + (t - from) = omega (arith, order) in
      let caps = is ∙ hour-cap t (suc (suc (t - from))) false order (ne_eqb (suc (t - from)) (suc (suc (t - from))) (λ e. omega (arith, e))) in
      let before = through-same (suc (t - from)) (suc (suc (t - from))) (t - from) (omega arith) (omega arith) in
      λ i p. hour_after table unit (at i) (caps i) (before i) p

  pub through-last : (t : ℕ) (cap : ℤ) → from ≤ t → cap ≡ cell_cap periods unit t (t == from) true
      → hour_after table unit t cap (cost_through periods table unit from (suc (t - from)) (t - from))
      ≡ cost_through periods table unit from (suc (t - from)) (suc (t - from))
  through-last t cap order is =
      let at : t ≡ from + (t - from) = omega (arith, order) in
      let caps = is ∙ hour-cap t (suc (t - from)) true order (eq-eqb (suc (t - from)) (suc (t - from)) refl) in
      λ i p. hour_after table unit (at i) (caps i) (cost_through periods table unit from (suc (t - from)) (t - from)) p

  pub run-ends : (t : ℕ) → from ≤ t
      → least_ending periods unit (suc t) (cost_through periods table unit from (suc (t - from)) (suc (t - from)))
      ≡ run_cost periods table unit from (suc (t - from))
  run-ends t order =
      let at : suc t ≡ from + suc (t - from) = omega (arith, order) in
      ap (λ k. least_ending periods unit k (cost_through periods table unit from (suc (t - from)) (suc (t - from)))) at

-- ---- sizes
pub bounded-more : (f : Steps) (a b : ℕ) → a ≤ b → IsBounded f a → IsBounded f b
bounded-more f a b l h = λ p place. let small = h p place in omega (arith, l, small)

pub hours-size : (n periods : ℕ) → n < periods → periods ≤ 168 → MAX_HOUR * n ≤ MAX_SWITCH
hours-size n periods l few = omega (arith, l, few)

-- ---- room
pub pieces-more : (n x old runs new : ℕ) → old ≤ n * (x + 2) → runs ≤ x → new ≤ old + runs + 2 → new ≤ suc n * (x + 2)
pieces-more n x old runs new pieces few more = grind (arith, pieces, few, more)

pub spare-room : (n periods x count room : ℕ) → n < periods → count ≤ suc n * (x + 2) → ((periods + 2) * (x + 2)) ≤ room → count < room
spare-room n periods x count room l pieces enough = grind (arith, l, pieces, enough)

-- ---- a copy of costs in its own room
pub record IsCopyOf (alive : Bool) (f : Steps) (same : Bool) (g : Steps) : Type 0 where
  pub room : ℕ
  pub alive_is : same ≡ alive
  pub function_is : g ≡ record f { room = room }

module _ (alive : Bool) (f : Steps) (same : Bool) (g : Steps) (copy : IsCopyOf alive f same g) where
  pub copy-costs : (cost : ℤ → Option ℤ) → IsCostsOf alive f cost → IsCostsOf same g cost
  copy-costs cost is = subst (λ b. IsCostsOf b g cost) (sym copy.alive_is) (copied f g copy.room copy.function_is alive cost is)

  pub copy-size : (size : ℕ) → (alive ≡ true → IsBounded f size) → same ≡ true → IsBounded g size
  copy-size size small live = copy-bounded f g copy.room copy.function_is size (small (sym copy.alive_is ∙ live))

  pub copy-near : (alive ≡ true → IsNear 2 f) → same ≡ true → IsNear 2 g
  copy-near near live =
      subst (λ (h : Steps). IsNear 2 h) (sym copy.function_is)
      (λ p place. near (sym copy.alive_is ∙ live) p (record { low = place.low; high = place.high }))

  pub copy-pieces : run_count g ≡ run_count f
  copy-pieces = ap (λ (h : Steps). run_count h) copy.function_is
