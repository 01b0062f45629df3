-- From one period to the next: what was filled stays filled, and what is written fills the period.
use Rattle.std.proofs.Common.{◌≡◌, ℕ, zero, suc, ◌+◌, ◌<◌, ◌≤◌, ⊎_elim, refl, sym, ap, subst, ◌∙◌, arith, List, length, ℤ, pos, ◌-ℤ◌, nat_lt, slice_index_or}
use Rattle.std.specs.Int.{int_min, int_max}
use Rattle.std.proofs.lemmas.Bool.{cases_lt, cases_eq, lt-ltb, le-ltb, cond-true, cond-false}
use Rattle.std.proofs.Math.ListN.{get_or-eq_default}
use Rattle.std.proofs.lemmas.Int.{ints}
use Rattle.uc_model.specs.Prelude.{sum_below, initial_p, IsLawfulInstance, IsLawfulThermal, thermal_unit, thermal_count, renewable_count, reserve_at, no_unit, cell_at}
use Rattle.uc_model.specs.declared.stuck.Why.TheVariants as why
use Rattle.schedule_check.specs.SizedNumbers.{output_at}
use Rattle.dispatch_repair.specs.Prelude.{Instance, Pattern, Printed, Thermal, Period, Source, FromRenewable, FromThermal, output_before, head_of, IsInMeritOrder, served, shed_of, short_of, Cell, HasPeriods, IsCommittedCell, period_after, IsFilling, IsFilled, IsDispatchThrough, Stuck, Why, IsRegular, IsFirstBrokenRule, IsDispatchOf, IsStuckInPeriod, IsFirstObstacle, stuck_period, IsStuckBy, IsStuckOf, Obstacle, IsObstacleOf, IsStuckAfter, AreCommitted, AreSameBelow, amount_of, thermal_amount, IsSizedOutput, Shortage, IsDispatchedFrom, source_count}
use Rattle.dispatch_repair.specs.Dispatch.{amounts}
use Rattle.dispatch_repair.specs.Amounts.{amount_at}
use Rattle.dispatch_repair.specs.inside.Rows.{IsWritten}
use Rattle.dispatch_repair.proofs.Impossible.{impossible}

-- ---- what was filled stays so
-- what came before a period hangs on the cells before it
pub before_same : (instance : Instance) (one other : Printed) (g t : ℕ) → ((k : ℕ) → k < t → cell_at one g k ≡ cell_at other g k)
    → output_before instance one g t ≡ output_before instance other g t
before_same instance one other g zero same = refl
before_same instance one other g (suc t) same = ap (λ (c : Cell). c.p) (same t (omega arith))

filled_moved : (instance : Instance) (patterns : List Pattern) (n t : ℕ) (old new : Printed) → AreSameBelow n old new → t < n
    → IsFilled instance patterns old t → IsFilled instance patterns new t
filled_moved instance patterns n t old new same h filled =
    let before : (g : ℕ) → output_before instance old g t ≡ output_before instance new g t =
    λ g. before_same instance old new g t (λ k hk. sym (same.cells g k (omega (arith, hk, h)))) in
    subst (λ z. z) (λ i. IsFilling instance patterns t (λ g. before g i) (λ g. sym (same.cells g t h) i) (λ w. sym (same.outputs w t h) i) (sym (same.shed t h) i)
    (sym (same.short t h) i)) filled

-- ---- past the last unit
no_cells : (instance : Instance) (periods : ℕ) (printed : Printed) (g t : ℕ) → HasPeriods instance periods printed → thermal_count instance ≤ g → (cell_at printed g t).p ≡ pos 0
no_cells instance periods printed g t shape h = grind (arith, ints, slice_index_or, get_or-eq_default, shape, h)

no_outputs : (instance : Instance) (periods : ℕ) (printed : Printed) (w t : ℕ) → HasPeriods instance periods printed → renewable_count instance ≤ w → output_at printed w t ≡ pos 0
no_outputs instance periods printed w t shape h = grind (arith, ints, slice_index_or, get_or-eq_default, shape, h)

no_amount : (instance : Instance) (numbers : List ℤ) (g : ℕ) → length numbers ≡ source_count instance → thermal_count instance ≤ g → thermal_amount instance numbers g ≡ pos 0
no_amount instance numbers g count h = get_or-eq_default numbers (pos 0) (subst (λ n. n ≤ renewable_count instance + g) (sym count) (omega arith))

no_initial : (instance : Instance) (g : ℕ) → thermal_count instance ≤ g → initial_p (thermal_unit instance g) ≡ pos 0
no_initial instance g h = ap initial_p (get_or-eq_default instance.thermal no_unit h)

-- the size of what a unit gives initially
pub initial_size : (unit : Thermal) → IsLawfulThermal unit → IsSizedOutput (initial_p unit)
initial_size unit lawful = grind (arith, ints, lawful)

-- ---- how far a dispatch has come
-- the amounts of the thermal units are their outputs in the period before t
pub record AreBefore (instance : Instance) (printed : Printed) (t : ℕ) (numbers : List ℤ) : Type 0 where
  pub are : (g : ℕ) → thermal_amount instance numbers g ≡ output_before instance printed g t
  pub sizes : (g : ℕ) → g < thermal_count instance → IsSizedOutput (thermal_amount instance numbers g)

-- the first t periods are filled, and these are the amounts of the last of them
pub record AreFilledBelow (instance : Instance) (patterns : List Pattern) (t : ℕ) (printed : Printed) (numbers : List ℤ) : Type 0 where
  pub committed : AreCommitted instance patterns printed
  pub filled : (k : ℕ) → k < t → IsFilled instance patterns printed k
  pub count : length numbers ≡ source_count instance
  pub before : AreBefore instance printed t numbers

-- none is filled yet, after what the units give initially
pub begun : (instance : Instance) (patterns : List Pattern) (printed : Printed) (numbers : List ℤ) → IsLawfulInstance instance → AreCommitted instance patterns printed
    → length numbers ≡ source_count instance
    → ((g : ℕ) → g < thermal_count instance → thermal_amount instance numbers g ≡ initial_p (thermal_unit instance g))
    → AreFilledBelow instance patterns 0 printed numbers
begun instance patterns printed numbers lawful committed count initial =
    grind (arith, ints, no_amount, no_initial, cases_lt, initial_size, lawful, committed, count, initial)

-- ---- a period more
committed_cell : (instance : Instance) (patterns : List Pattern) (g t : ℕ) (old new : Cell) → new.on ≡ old.on → new.category ≡ old.category
    → IsCommittedCell instance patterns g t old → IsCommittedCell instance patterns g t new
committed_cell instance patterns g t old new on category is = grind (arith, ints, is)

module _ (instance : Instance) (patterns : List Pattern) (t : ℕ) (old new : Printed) (before after heads : List ℤ) (shortage : Shortage)
    (shape : HasPeriods instance instance.periods new) (count : length after ≡ source_count instance)
    (below : AreFilledBelow instance patterns t old before) (within : t < instance.periods)
    (dispatched : IsDispatchedFrom (period_after instance patterns t (thermal_amount instance before)) shortage after heads)
    (written : IsWritten instance after heads shortage t old new) where
  abbrev gave : Source → ℤ
  gave = amounts (λ g. cell_at new g t) (λ w. output_at new w t)

  abbrev period : Period
  period = period_after instance patterns t (λ g. output_before instance new g t)

  gives : (s : Source) → amount_of instance after s ≡ gave s
  gives (FromRenewable w) = ⊎_elim
      (λ (h : w < renewable_count instance). cond-true (nat_lt w (renewable_count instance)) _ _ (lt-ltb w (renewable_count instance) h) ∙ sym (written.outputs w h))
      (λ h. cond-false (nat_lt w (renewable_count instance)) _ _ (le-ltb w (renewable_count instance) h) ∙ sym (no_outputs instance instance.periods new w t shape h))
      (cases_lt w (renewable_count instance))
  gives (FromThermal g) = ⊎_elim
      (λ (h : g < thermal_count instance). sym (written.cells g h).p)
      (λ h. no_amount instance after g count h ∙ sym (no_cells instance instance.periods new g t shape h))
      (cases_lt g (thermal_count instance))

  gave_before : (g : ℕ) → thermal_amount instance before g ≡ output_before instance new g t
  gave_before g = below.before.are g ∙ before_same instance old new g t (λ k h. sym (written.others.cells g k (omega (arith, h))))

  same_period : period_after instance patterns t (thermal_amount instance before) ≡ period
  same_period = λ i. period_after instance patterns t (λ g. gave_before g i)

  filled_here : IsFilled instance patterns new t
  filled_here = record {
    cells = λ g h. committed_cell instance patterns g t (cell_at old g t) (cell_at new g t) (written.cells g h).on (written.cells g h).category (below.committed.cells g t h within);
    unserved = written.shed ∙ dispatched.shortages.shed ∙ ap shed_of same_period;
    missing = written.short ∙ dispatched.shortages.short ∙ ap short_of same_period;
    merit = subst (λ z. z) (λ i. IsInMeritOrder (served (same_period i) (sym written.shed i) (sym written.short i)) (λ s. gives s i)) dispatched.merit;
    reserve = λ g h.
        let head : amount_at heads g ≡ head_of period g = (dispatched.heads g h).is ∙ ap (λ p. head_of p g) same_period in
        (written.cells g h).r
        ∙ (λ i. int_min (head i -ℤ gives (FromThermal g) i) (int_max ((reserve_at instance t -ℤ sym written.short i) -ℤ sum_below g (λ k. (cell_at new k t).r)) (pos 0)));
  }

  committed_still : AreCommitted instance patterns new
  committed_still = record {
    shape = shape;
    cells = λ g k hg hk. ⊎_elim
        (λ (same : k ≡ t). subst (λ j. IsCommittedCell instance patterns g j (cell_at new g j)) (sym same) (filled_here.cells g hg))
        (λ other. subst (IsCommittedCell instance patterns g k) (sym (written.others.cells g k other)) (below.committed.cells g k hg hk))
        (cases_eq k t);
  }

  pub next_filled : AreFilledBelow instance patterns (suc t) new after
  next_filled = record {
    committed = committed_still;
    filled = λ k h. ⊎_elim
        (λ (early : k < t). filled_moved instance patterns t k old new same early (below.filled k early))
        (λ (late : t ≤ k). subst (IsFilled instance patterns new) (omega (arith, h, late)) filled_here)
        (cases_lt k t);
    count = count;
    before = record { are = λ g. gives (FromThermal g); sizes = dispatched.sizes };
  }
    where
      same : AreSameBelow t old new
      same = record {
        cells = λ g j h. written.others.cells g j (omega (arith, h));
        outputs = λ w j h. written.others.outputs w j (omega (arith, h));
        shed = λ j h. written.others.shed j (omega (arith, h));
        short = λ j h. written.others.short j (omega (arith, h));
      }

-- ---- the end
-- all are filled
pub dispatch_through : (instance : Instance) (patterns : List Pattern) (printed : Printed) (numbers : List ℤ) → IsRegular instance patterns
    → AreFilledBelow instance patterns instance.periods printed numbers → IsDispatchOf instance patterns printed
dispatch_through instance patterns printed numbers regular below = record { regular = regular; periods = record { shape = below.committed.shape; filled = below.filled } }

-- what is in the way in period t, after those before it
pub obstacle_of : (instance : Instance) (patterns : List Pattern) (t : ℕ) (printed : Printed) (numbers : List ℤ) (reason : Why)
    → AreFilledBelow instance patterns t printed numbers → t < instance.periods
    → IsFirstObstacle (period_after instance patterns t (thermal_amount instance numbers)) reason
    → IsObstacleOf instance patterns printed (record { period = t; why = reason })
obstacle_of instance patterns t printed numbers reason below within obstacle = record {
  within = within;
  filled = below.filled;
  first = subst (λ z. z) (λ i. IsFirstObstacle (period_after instance patterns t (λ g. below.before.are g i)) reason) obstacle;
}

-- stuck there, with the schedule of the periods before it
stuck_period_is : (instance : Instance) (patterns : List Pattern) (printed : Printed) (obstacle : Obstacle) (stuck : Stuck)
    → IsRegular instance patterns → HasPeriods instance instance.periods printed → IsObstacleOf instance patterns printed obstacle
    → IsStuckAfter printed obstacle.period obstacle.why stuck → IsStuckInPeriod instance patterns stuck (stuck_period instance patterns stuck)
stuck_period_is instance patterns printed obstacle stuck regular shape found is = record {
  regular = regular;
  within = within;
  prefix = subst (λ k. IsDispatchThrough instance patterns k stuck.prefix) (sym is.is_period) (record {
    shape = is.prefix.shape instance shape (omega (arith, found.within));
    filled = λ k h. filled_moved instance patterns t k printed stuck.prefix is.prefix.same h (found.filled k h);
  });
  obstacle = first;
  impossible = impossible (stuck_period instance patterns stuck) stuck.why within refl refl first;
}
  where
    t : ℕ
    t = obstacle.period

    within : stuck.period < instance.periods
    within = subst (λ k. k < instance.periods) (sym is.is_period) found.within

    before : (g : ℕ) → output_before instance printed g t ≡ output_before instance stuck.prefix g t
    before g = before_same instance printed stuck.prefix g t (λ k h. sym (is.prefix.same.cells g k h))

    same : period_after instance patterns t (λ g. output_before instance printed g t) ≡ stuck_period instance patterns stuck
    same = (λ i. period_after instance patterns t (λ g. before g i))
        ∙ (λ i. period_after instance patterns (sym is.is_period i) (λ g. output_before instance stuck.prefix g (sym is.is_period i)))

    first : IsFirstObstacle (stuck_period instance patterns stuck) stuck.why
    first = subst (IsFirstObstacle (stuck_period instance patterns stuck)) (sym is.reason) (subst (λ p. IsFirstObstacle p obstacle.why) same found.first)

-- so the commitment is stuck: an obstacle in a period isn't a broken rule
-- Cite by `use Rattle.dispatch_repair.proofs.Periods.{stuck_of}`.
pub stuck_of : (instance : Instance) (patterns : List Pattern) (printed : Printed) (obstacle : Obstacle) (stuck : Stuck)
    → IsRegular instance patterns → HasPeriods instance instance.periods printed → IsObstacleOf instance patterns printed obstacle
    → IsStuckAfter printed obstacle.period obstacle.why stuck → IsStuckOf instance patterns stuck
stuck_of instance patterns printed obstacle stuck regular shape found after = by stuck.why is.obstacle
  where
    is : IsStuckInPeriod instance patterns stuck (stuck_period instance patterns stuck)
    is = stuck_period_is instance patterns printed obstacle stuck regular shape found after

    by : (reason : Why) → IsFirstObstacle (stuck_period instance patterns stuck) reason → IsStuckBy instance patterns stuck reason
    by (why.Rule number unit) none = absurd none
    by _ found = is

-- stuck by a rule that the commitment breaks
pub stuck_by_rule : (instance : Instance) (patterns : List Pattern) (printed : Printed) (number unit : ℕ) (stuck : Stuck)
    → HasPeriods instance instance.periods printed → IsFirstBrokenRule instance patterns number unit
    → IsStuckAfter printed 0 (why.Rule number unit) stuck → IsStuckOf instance patterns stuck
stuck_by_rule instance patterns printed number unit stuck shape broken is = grind (arith, ints, shape, broken, is)
