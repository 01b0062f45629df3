-- Cells that are alike keep the rules on single periods alike: a cell of a row, with the state and the output before it, beside a cell of
-- another row of the unit with another initial state.
use Rattle.std.proofs.Common.{arith, ◌≡◌, ℕ, suc, not, ◌||◌, List, ap, ◌+ℤ◌, int_le}
use Rattle.uc_model.specs.Prelude.{must_run_at, was_on, stop_cap}
use Rattle.schedule_check.specs.WholeWatts as watts
use Rattle.roll.specs.Prelude.{Thermal, Cell, CarriedUnit, continued, SameDispatch}

-- period t of a row of the unit is like period s of a row of the continued unit
pub record AreAlike (unit : Thermal) (left : CarriedUnit) (row other : List Cell) (t s : ℕ) : Type 0 where
  pub cell : SameDispatch (watts.cell other s) (watts.cell row t)
  pub was : was_on unit (watts.commitment row) t ≡ was_on (continued unit left) (watts.commitment other) s
  pub before : watts.output_before unit row t ≡ watts.output_before (continued unit left) other s

-- M1
pub same_must_run : (unit : Thermal) (left : CarriedUnit) (row other : List Cell) (t s : ℕ) → AreAlike unit left row other t s
    → must_run_at unit (watts.commitment row) t ≡ must_run_at (continued unit left) (watts.commitment other) s
same_must_run unit left row other t s alike = ap (λ on. not unit.must_run || on) alike.cell.on

-- M8
pub same_production : (unit : Thermal) (left : CarriedUnit) (row other : List Cell) (t s : ℕ) → AreAlike unit left row other t s
    → watts.production_at unit row t ≡ watts.production_at (continued unit left) other s
same_production unit left row other t s alike = grind (arith, alike)

-- M9
pub same_start_cap : (unit : Thermal) (left : CarriedUnit) (row other : List Cell) (t s : ℕ) → AreAlike unit left row other t s
    → watts.start_cap_by watts.whole unit row t ≡ watts.start_cap_by watts.whole (continued unit left) other s
same_start_cap unit left row other t s alike = grind (arith, alike)

-- M10, where the next periods are alike too
pub same_stop_cap : (unit : Thermal) (left : CarriedUnit) (row other : List Cell) (t s : ℕ) → AreAlike unit left row other t s
    → SameDispatch (watts.cell other (suc s)) (watts.cell row (suc t))
    → int_le ((watts.cell row t).p +ℤ (watts.cell row t).r) (stop_cap unit (watts.commitment row) t)
    ≡ int_le ((watts.cell other s).p +ℤ (watts.cell other s).r) (stop_cap (continued unit left) (watts.commitment other) s)
same_stop_cap unit left row other t s alike behind = grind (arith, alike, behind)

-- M11
pub same_ramp_up : (unit : Thermal) (left : CarriedUnit) (row other : List Cell) (t s : ℕ) → AreAlike unit left row other t s
    → watts.ramp_up_by watts.whole unit row t ≡ watts.ramp_up_by watts.whole (continued unit left) other s
same_ramp_up unit left row other t s alike = grind (arith, alike)

-- M12
pub same_ramp_down : (unit : Thermal) (left : CarriedUnit) (row other : List Cell) (t s : ℕ) → AreAlike unit left row other t s
    → watts.ramp_down_by watts.whole unit row t ≡ watts.ramp_down_by watts.whole (continued unit left) other s
same_ramp_down unit left row other t s alike = grind (arith, alike)
