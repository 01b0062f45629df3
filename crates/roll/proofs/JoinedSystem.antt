-- Periods of two schedules that are alike keep the rules on the whole system alike.
use Rattle.std.proofs.Common.{arith, ◌≡◌, ℕ, ◌<◌, ◌&&◌, ◌||◌, ap, ◌∙◌, ℤ, pos, int_le, nat_lt}
use Rattle.std.specs.Int.{int_max}
use Rattle.std.specs.Ordering.{int_eq}
use Rattle.uc_model.specs.Prelude.{sum_below, thermal_unit, thermal_count, renewable_count, renewable_minimum, renewable_maximum, demand_at, reserve_at, cell_at, shed_at, short_at}
use Rattle.uc_model.proofs.Common.{sum_below-same}
use Rattle.schedule_check.specs.SizedNumbers.{output_at}
use Rattle.schedule_check.specs.WholeWatts as watts
use Rattle.roll.specs.Prelude.{Instance, Printed, SameDispatch}

-- period t of a schedule of the instance is like period s of a schedule of another one
pub record AreSystemsAlike (instance other : Instance) (printed shown : Printed) (t s : ℕ) : Type 0 where
  pub thermal_units : thermal_count instance ≡ thermal_count other
  pub cells : (g : ℕ) → g < thermal_count instance → SameDispatch (cell_at shown g s) (cell_at printed g t)
  pub least_outputs : (g : ℕ) → g < thermal_count instance → (thermal_unit instance g).pmin ≡ (thermal_unit other g).pmin
  pub renewable_units : renewable_count instance ≡ renewable_count other
  pub outputs : (w : ℕ) → w < renewable_count instance → output_at printed w t ≡ output_at shown w s
  pub minimum : (w : ℕ) → w < renewable_count instance → renewable_minimum instance w t ≡ renewable_minimum other w s
  pub maximum : (w : ℕ) → w < renewable_count instance → renewable_maximum instance w t ≡ renewable_maximum other w s
  pub demand : demand_at instance t ≡ demand_at other s
  pub reserves : reserve_at instance t ≡ reserve_at other s
  pub shed : shed_at printed t ≡ shed_at shown s
  pub short : short_at printed t ≡ short_at shown s
  pub a : instance.a ≡ other.a
  pub b : instance.b ≡ other.b

-- M13
pub same_range : (instance other : Instance) (printed shown : Printed) (w t s : ℕ) → AreSystemsAlike instance other printed shown t s
    → w < renewable_count instance → watts.renewable_range_at watts.whole instance printed w t ≡ watts.renewable_range_at watts.whole other shown w s
same_range instance other printed shown w t s alike h = grind (arith, alike, h)

-- sums over counts that are equal
sum_same : (n k : ℕ) (f g : ℕ → ℤ) → n ≡ k → ((i : ℕ) → i < n → f i ≡ g i) → sum_below n f ≡ sum_below k g
sum_same n k f g e same = sum_below-same n f g same ∙ ap (λ j. sum_below j g) e

-- M14
pub same_demand : (instance other : Instance) (printed shown : Printed) (t s : ℕ) → AreSystemsAlike instance other printed shown t s
    → watts.demand_holds watts.whole instance printed t ≡ watts.demand_holds watts.whole other shown s
same_demand instance other printed shown t s alike = grind (arith, sum_same, alike)

-- M15
pub same_reserve : (instance other : Instance) (printed shown : Printed) (t s : ℕ) → AreSystemsAlike instance other printed shown t s
    → watts.reserve_holds watts.whole instance printed t ≡ watts.reserve_holds watts.whole other shown s
same_reserve instance other printed shown t s alike = grind (arith, sum_same, int_le, alike)

-- M16 and M17, over equal prices, needs and shortages
same_shortage : (price other : ℕ) (need own missing lacking : ℤ) → price ≡ other → need ≡ own → missing ≡ lacking
    → (int_le (pos 0) missing && int_le missing (int_max need (pos 0)) && (nat_lt 0 price || int_eq missing (pos 0)))
    ≡ (int_le (pos 0) lacking && int_le lacking (int_max own (pos 0)) && (nat_lt 0 other || int_eq lacking (pos 0)))
same_shortage price other need own missing lacking p n m = grind (arith, p, n, m)

pub same_shed : (instance other : Instance) (printed shown : Printed) (t s : ℕ) → AreSystemsAlike instance other printed shown t s
    → watts.shed_holds watts.whole instance printed t ≡ watts.shed_holds watts.whole other shown s
same_shed instance other printed shown t s alike = same_shortage _ _ _ _ _ _ alike.a alike.demand alike.shed

pub same_short : (instance other : Instance) (printed shown : Printed) (t s : ℕ) → AreSystemsAlike instance other printed shown t s
    → watts.short_holds watts.whole instance printed t ≡ watts.short_holds watts.whole other shown s
same_short instance other printed shown t s alike = same_shortage _ _ _ _ _ _ alike.b alike.reserves alike.short
