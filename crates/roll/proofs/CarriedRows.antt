-- The last cell of each row of a schedule that obeys is within its unit's range; and one more state behind the rows.
use Rattle.std.proofs.Common.{◌≡◌, ℕ, ◌+◌, ◌-◌, ◌<◌, ◌≤◌, Bool, true, false, List, [], ◌∷◌, ◌++◌, length, get_or, ap, ◌∙◌, arith, ℤ, pos, ◌+ℤ◌, ◌-ℤ◌, ◌*ℤ◌, ◌≤ℤ◌, IsTrue}
use Rattle.std.specs.Int.{int_max}
use Rattle.std.proofs.lemmas.Int.{ints}
use Rattle.std.proofs.lemmas.Bool.{cases_lt, cases_Bool}
use Rattle.std.proofs.lemmas.List.{get_or_append_left, get_or_push, length_push}
use Rattle.std.proofs.lemmas.List.Elements.{All-get_or}
use Rattle.uc_model.specs.Prelude.{bit, start_reduction, starts, start_cap, thermal_unit, IsLawfulInstance, IsLawfulThermal}
use Rattle.uc_model.specs.Rules as model
use Rattle.uc_model.proofs.Common.{linear, le_trans, mul-one, mul-zero, int_le-true}
use Rattle.schedule_check.specs.WholeWatts as watts
use Rattle.schedule_check.proofs.Produced.{Holds, holds_from}
use Rattle.roll.specs.Prelude.{first_periods, Instance, Thermal, Cell, Printed, CarriedUnit, IsLeftBy, IsLawfulState, ObeysFirst}
use Rattle.roll.specs.inside.Rows.{AreStatesBehind, HasRows, IsWithinRange, row_at, unit_at}
use Rattle.roll.proofs.KeptRules.{IsSolved, rule_in_watts}
use Rattle.roll.proofs.Parts.{first_lawful}

-- ---- the caps
pub reduction_nonneg : (z : ℤ) → pos 0 ≤ℤ int_max z (pos 0)
reduction_nonneg z = grind (arith, ints)

-- a cap is at most the range of an on cell
pub cap_below : (range reduction : ℤ) (on change : Bool) → pos 0 ≤ℤ reduction → (range *ℤ bit on -ℤ reduction *ℤ bit change) ≤ℤ (range *ℤ bit on)
cap_below range reduction on true low = let one = mul-one reduction in omega (arith, linear)
cap_below range reduction on false low = let none = mul-zero reduction in omega (arith, linear)

range_below : (range : ℤ) (on : Bool) → pos 0 ≤ℤ range → (range *ℤ bit on) ≤ℤ range
range_below range true low = let one = mul-one range in omega (arith, linear)
range_below range false low = let none = mul-zero range in omega (arith, linear)

-- ---- a cell that keeps M8 and M9
-- where M8 holds of it, an on cell has output and reserve of at least 0, and an off cell neither
within_range : (unit : Thermal) (row : List Cell) (t : ℕ) → IsLawfulThermal unit → Holds watts.whole unit (watts.cell row t)
    → IsTrue (watts.start_cap_by watts.whole unit row t) → IsWithinRange unit (watts.cell row t)
within_range unit row t lawful holds capped =
    let on = watts.commitment row in
    let most : ((watts.cell row t).p +ℤ (watts.cell row t).r) ≤ℤ start_cap unit on t = int_le-true _ _ capped in
    let low = reduction_nonneg (unit.pmax -ℤ unit.su) in
    let below = cap_below (unit.pmax -ℤ unit.pmin) (start_reduction unit) (on t) (starts unit on t) low in
    let wide : pos 0 ≤ℤ (unit.pmax -ℤ unit.pmin) = let h = lawful.range in omega (arith, linear) in
    let range = range_below (unit.pmax -ℤ unit.pmin) (on t) wide in
    record {
      output = grind (arith, ints, cases_Bool, row, t, holds);
      reserve = holds.reserve;
      total = le_trans _ _ _ most (le_trans _ _ _ below range);
    }

-- ---- the rows of a schedule of the first periods
pub rows_behind : (instance : Instance) (n : ℕ) (kept : Printed) → IsLawfulInstance instance → 1 ≤ n → n ≤ instance.periods
    → ObeysFirst instance n kept → HasRows instance.thermal kept.thermal n
rows_behind instance n kept lawful some h obeys = record {
  count = obeys.shape.thermal;
  cells = λ g hg. All-get_or (λ row. length row ≡ n) kept.thermal g [] (omega (arith, obeys.shape.thermal)) obeys.shape.cells;
  last = λ g hg. within_range (thermal_unit instance g) (watts.row_of kept g) (n - 1) (lawful.thermal g hg)
      (holds_from watts.whole (thermal_unit instance g) (watts.row_of kept g) (n - 1)
      (rule_in_watts (first_periods n instance) kept solved model.Production g (n - 1) hg (omega arith)))
      (rule_in_watts (first_periods n instance) kept solved model.StartCap g (n - 1) hg (omega arith));
}
  where
    solved : IsSolved (first_periods n instance) kept
    solved = record { lawful = first_lawful instance n lawful some h; whole = obeys.whole; obeys = obeys.obeys }

-- ---- one more entry
-- what holds of each entry so far and of the next one
pub one_more : {X : Type 0} (P : ℕ → X → Type 0) (xs : List X) (n : ℕ) (x d : X) → length xs ≡ n
    → ((k : ℕ) → k < n → P k (get_or xs k d)) → P n x → (k : ℕ) → k < n + 1 → P k (get_or (xs ++ x ∷ []) k d)
one_more P xs n x d e before here k h = grind (arith, ints, get_or_append_left, get_or_push, cases_lt, e, before, here, h)

pub states_more : (units : List Thermal) (rows : List (List Cell)) (end n : ℕ) (states : List CarriedUnit) (state : CarriedUnit)
    → AreStatesBehind units rows end n states → IsLeftBy (unit_at units n) (row_at rows n) end state → IsLawfulState state
    → AreStatesBehind units rows end (n + 1) (states ++ state ∷ [])
states_more units rows end n states state before here lawful = record {
  length_is = length_push states state ∙ ap (λ k. k + 1) before.length_is;
  each = one_more (λ k s. IsLeftBy (unit_at units k) (row_at rows k) end s) states n state _ before.length_is before.each here;
  lawful = one_more (λ k s. IsLawfulState s) states n state _ before.length_is before.lawful lawful;
}
