-- What a schedule that obeys keeps at each unit and period, and that its commitment is an allowed pattern.
-- Cite from a crate above by `use Rattle.uc_model.proofs.Obeyed.{rule_at, is_allowed-obeying}`.
use Rattle.std.proofs.Common.{◌≡◌, ℕ, zero, suc, ◌<◌, ◌≤◌, false, not, ◌&&◌, sym, ◌∙◌, arith, ℤ, pos, ◌+ℤ◌, ◌*ℤ◌, ◌≤ℤ◌, ⊎_elim, IsTrue, int_le, nat_lt}
use Rattle.std.specs.Int.{int_min}
use Rattle.std.specs.Ordering.{int_eq}
use Rattle.std.proofs.lemmas.Int.{ints}
use Rattle.std.proofs.lemmas.Bool.{and_parts, and_from, or_cases, or_right, cond_both, not_from_true, true≢false, leb-true}
use Rattle.uc_model.specs.Prelude.{all_below, bit, Thermal, start_cap, stop_cap, cap, is_allowed_at, is_allowed, Instance, Row, Schedule, thermal_unit, thermal_count, point, point_count, point_p, p_at, weight_sum, Rule, MustRun, InitialUp, InitialDown, MinimumUp, MinimumDown, InitialStop, Production, StartCap, StopCap, holds_at, rule_units, rule_periods, production_at, Obeys, IsLawfulThermal}
use Rattle.uc_model.proofs.Ring.{linear, le_trans, mul_nonneg, pos_nonneg, sub_nonneg}
use Rattle.uc_model.proofs.Sums.{sum_below_nonneg}
use Rattle.uc_model.proofs.Tests.{int_le-true, le-int_le, int_eq-true, all_below-at, all_below-from}

-- the rule holds for each unit and period of which it speaks
pub rule_at : (instance : Instance) (q : ℕ) (x : Schedule) → Obeys instance q x → (rule : Rule) (g t : ℕ)
    → g < rule_units rule instance → t < rule_periods rule instance → IsTrue (holds_at rule instance q x g t)
rule_at instance q x obeys rule g t hg ht =
    all_below-at _ (holds_at rule instance q x g)
    (all_below-at _ (λ k. all_below (rule_periods rule instance) (holds_at rule instance q x k)) (obeys.rules rule) g hg)
    t ht

-- ---- the parts of M8
pub record Produces (q : ℕ) (unit : Thermal) (row : Row) (t : ℕ) : Type 0 where
  pub weights : (l : ℕ) → l < point_count unit → row.weight t l ≤ q
  pub total : weight_sum unit row t ≡ pos q *ℤ bit (row.on t)
  pub reserve : pos 0 ≤ℤ row.reserve t
  pub idle : row.on t ≡ false → (p_at unit row t ≡ pos 0) × (row.reserve t ≡ pos 0)

pub production_parts : (q : ℕ) (unit : Thermal) (row : Row) (t : ℕ) → IsTrue (production_at q unit row t) → Produces q unit row t
production_parts q unit row t h =
    let p3 = and_parts _ _ h in
    let p2 = and_parts _ _ p3.0 in
    let p1 = and_parts _ _ p2.0 in
    record {
      weights = λ l hl. leb-true _ _ (all_below-at _ _ p1.0 l hl);
      total = int_eq-true _ _ p1.1;
      reserve = int_le-true _ _ p2.1;
      idle = λ off.
          ⊎_elim
          (λ (on : IsTrue (row.on t)). absurd (true≢false (sym on ∙ off)))
          (λ (both : IsTrue (int_eq (p_at unit row t) (pos 0) && int_eq (row.reserve t) (pos 0))).
          let parts = and_parts _ _ both in
          (int_eq-true _ _ parts.0, int_eq-true _ _ parts.1))
          (or_cases (row.on t) _ p3.1);
    }

-- ---- output above the minimum is never negative, since the points rise
pub first-le-point : (unit : Thermal) → IsLawfulThermal unit → (l : ℕ) → l < point_count unit → (point unit 0).mw ≤ℤ (point unit l).mw
first-le-point unit lawful zero h = omega (arith, linear)
first-le-point unit lawful (suc l) h = le_trans _ _ _ (first-le-point unit lawful l (omega arith)) (lawful.rising l h)

pub point_p_nonneg : (unit : Thermal) → IsLawfulThermal unit → (l : ℕ) → l < point_count unit → pos 0 ≤ℤ point_p unit l
point_p_nonneg unit lawful l h = sub_nonneg _ _ (first-le-point unit lawful l h)

pub p_at_nonneg : (unit : Thermal) → IsLawfulThermal unit → (row : Row) (t : ℕ) → pos 0 ≤ℤ p_at unit row t
p_at_nonneg unit lawful row t = grind (arith, ints, sum_below_nonneg, mul_nonneg, point_p_nonneg, pos_nonneg, lawful)

-- ---- caps
-- a cap that q times bounds a number which isn't negative isn't negative
cap_nonneg : (q : ℕ) (c p r : ℤ) → 1 ≤ q → pos 0 ≤ℤ p → pos 0 ≤ℤ r → (p +ℤ r) ≤ℤ (pos q *ℤ c) → pos 0 ≤ℤ c
cap_nonneg q c p r hq hp hr h = grind (arith, ints, hq, hp, hr, h)

-- a least of two numbers that aren't negative
pub min_nonneg : (a b : ℤ) → pos 0 ≤ℤ a → pos 0 ≤ℤ b → pos 0 ≤ℤ int_min a b
min_nonneg a b ha hb = grind (arith, ints)

-- each cell of a schedule that obeys has a cap of at least 0
pub cap-obeying : (instance : Instance) (q : ℕ) (x : Schedule) (g t : ℕ) → Obeys instance q x
    → g < thermal_count instance → t < instance.periods → IsLawfulThermal (thermal_unit instance g)
    → pos 0 ≤ℤ cap instance.periods (thermal_unit instance g) (x.thermal g).on t
cap-obeying instance q x g t obeys hg ht lawful =
    let unit = thermal_unit instance g in
    let row = x.thermal g in
    let made = production_parts q unit row t (rule_at instance q x obeys Production g t hg ht) in
    let p_low = p_at_nonneg unit lawful row t in
    let started : pos 0 ≤ℤ start_cap unit row.on t =
    cap_nonneg q _ _ _ obeys.denominator p_low made.reserve (int_le-true _ _ (rule_at instance q x obeys StartCap g t hg ht))
    in
    cond_both (nat_lt (suc t) instance.periods) _ _ (λ c. pos 0 ≤ℤ c)
    (λ before.
    ⊎_elim
    (λ (last : IsTrue (not (nat_lt (suc t) instance.periods))).
    absurd (true≢false (sym last ∙ not_from_true _ before)))
    (λ (below : IsTrue (int_le (p_at unit row t +ℤ row.reserve t) (pos q *ℤ stop_cap unit row.on t))).
    min_nonneg _ _ started (cap_nonneg q _ _ _ obeys.denominator p_low made.reserve (int_le-true _ _ below)))
    (or_cases _ _ (rule_at instance q x obeys StopCap g t hg ht)))
    (λ last. started)

-- the commitment of a unit in a schedule that obeys is an allowed pattern
pub is_allowed-obeying : (instance : Instance) (q : ℕ) (x : Schedule) (g : ℕ) → 1 ≤ instance.periods → Obeys instance q x
    → g < thermal_count instance → IsLawfulThermal (thermal_unit instance g)
    → IsTrue (is_allowed instance.periods (thermal_unit instance g) (x.thermal g).on)
is_allowed-obeying instance q x g some obeys hg lawful =
    and_from _ _
    (rule_at instance q x obeys InitialStop g 0 hg (omega arith))
    (all_below-from _ _ each)
  where
    each : (t : ℕ) → t < instance.periods → IsTrue (is_allowed_at instance.periods (thermal_unit instance g) (x.thermal g).on t)
    each t ht =
        and_from _ _
        (and_from _ _
        (and_from _ _
        (and_from _ _
        (and_from _ _ (rule_at instance q x obeys MustRun g t hg ht) (rule_at instance q x obeys InitialUp g t hg ht))
        (rule_at instance q x obeys InitialDown g t hg ht))
        (rule_at instance q x obeys MinimumUp g t hg ht))
        (rule_at instance q x obeys MinimumDown g t hg ht))
        (or_right _ _ (le-int_le _ _ (cap-obeying instance q x g t obeys hg ht lawful)))
