-- Each commitment that keeps the rules on commitments is dispatched, or stuck.
use Rattle.std.proofs.Common.{◌≡◌, ℕ, zero, suc, ◌+◌, ◌*◌, ◌-◌, ◌<◌, ◌≤◌, ◌⊎◌, inl, inr, refl, sym, ap, subst, ◌∙◌, arith, List, length, ℤ, pos, ◌-ℤ◌, ◌≤ℤ◌, unsigned_abs}
use Rattle.std.specs.Int.{int_max}
use Rattle.std.proofs.lemmas.Int.{ints}
use Rattle.std.proofs.lemmas.List.Elements.{All-get_or}
use Rattle.uc_model.specs.Prelude.{initial_p, IsLawfulInstance, IsPower, thermal_unit, thermal_count, renewable_count, demand_at, sum_below}
use Rattle.uc_model.proofs.Common.{within_of_abs, linear, pos-mul, pos-le-pos, sum_below-const, sum_below-le}
use Rattle.dispatch_repair.specs.Prelude.{Instance, Pattern, Printed, Period, low_of, head_of, total_output, demand_of, need_of, thermal_limit, thermal_sum, served, shed_of, short_of, period_after, Segment, AreInMeritOrder, source_count, Stuck, IsDispatchOf, IsFree, IsRegular, IsStuckOf, IsSizedOutput, thermal_amount, Shortage, IsDispatchedFrom, PeriodStart, IsFirstLeft, IsStart, MAX_POWER, MAX_UNITS}
use Rattle.dispatch_repair.specs.Period.{heads}
use Rattle.dispatch_repair.specs.Amounts.{amount_at}
use Rattle.dispatch_repair.specs.inside.Rows.{IsWritten, list_of, written}
use Rattle.dispatch_repair.proofs.Committing.{idle, idle_committed}
use Rattle.dispatch_repair.proofs.Filled.{max_right}
use Rattle.dispatch_repair.proofs.Listed.{listed, listed_length}
use Rattle.dispatch_repair.proofs.Merit.{first_need, first_room, open_ranges}
use Rattle.dispatch_repair.proofs.Obstacles.{free, barred, judged}
use Rattle.dispatch_repair.proofs.Periods.{AreFilledBelow, begun as filled_none, dispatch_through, next_filled, obstacle_of, stuck_of}
use Rattle.dispatch_repair.proofs.Raising.{HasFilling, filling}
use Rattle.dispatch_repair.proofs.Reaches.{heads_are, heads_in, ranges_are, ranges_in}
use Rattle.dispatch_repair.proofs.RowsEdits.{cut_at, cut_stuck}
use Rattle.dispatch_repair.proofs.Shortages.{dispatched_from, fillable, low_sums, shed_nonneg, started}
use Rattle.dispatch_repair.proofs.Writing.{written_is, written_shape}

-- what a commitment comes to
pub data IsEnded (instance : Instance) (patterns : List Pattern) : Type 0 where
  dispatched : (printed : Printed) → IsDispatchOf instance patterns printed → IsEnded instance patterns
  stuck : (reason : Stuck) → IsStuckOf instance patterns reason → IsEnded instance patterns

-- a number from 0 up to a bound has its size
up_to : (z most : ℤ) (m : ℕ) → pos 0 ≤ℤ z → z ≤ℤ most → most ≤ℤ pos m → unsigned_abs z ≤ m
up_to z most m low high bound = grind (arith, ints, low, high, bound)

part-le : (z whole first second : ℤ) → z ≡ (whole -ℤ first) -ℤ second → pos 0 ≤ℤ first → pos 0 ≤ℤ second → z ≤ℤ whole
part-le z whole first second is low high = omega (arith, linear, is, low, high)

power-le : (z : ℤ) → IsPower z → z ≤ℤ pos (MAX_UNITS * (50 * MAX_POWER))
power-le z power = let within = within_of_abs z MAX_POWER power in omega (arith, linear, within.high)

module _ (instance : Instance) (patterns : List Pattern) (order : List Segment) (lawful : IsLawfulInstance instance)
    (are : AreInMeritOrder instance order) where
  -- ---- a period
  -- a period without an obstacle, after outputs of the size of outputs
  module _ (t : ℕ) (before : ℕ → ℤ) (within : t < instance.periods)
      (sizes : (g : ℕ) → g < thermal_count instance → IsSizedOutput (before g)) where
    abbrev period : Period
    period = period_after instance patterns t before

    heads-le : heads period ≤ℤ pos (MAX_UNITS * (50 * MAX_POWER))
    heads-le =
        let each : sum_below (thermal_count instance) (head_of period) ≤ℤ sum_below (thermal_count instance) (λ g. pos (3 * MAX_POWER)) =
        sum_below-le (thermal_count instance) (head_of period) (λ g. pos (3 * MAX_POWER)) (λ g h.
        let is = heads_are period lawful within sizes g h in
        let size = within_of_abs (amount_at (heads_in period) g) (3 * MAX_POWER) is.size in
        omega (arith, linear, is.is, size.high)) in
        let all = sum_below-const (thermal_count instance) (pos (3 * MAX_POWER)) ∙ sym (pos-mul (thermal_count instance) (3 * MAX_POWER)) in
        let few : thermal_count instance * (3 * MAX_POWER) ≤ MAX_UNITS * (50 * MAX_POWER) = omega (arith, lawful.thermal_units) in
        omega (arith, linear, each, all, pos-le-pos (thermal_count instance * (3 * MAX_POWER)) (MAX_UNITS * (50 * MAX_POWER)) few)

    module _ (clear : IsFree period) where
      abbrev kept : Period
      kept = served period (shed_of period) (short_of period)

      abbrev start : PeriodStart
      start = record {
        shortage = record { shed = shed_of period; short = short_of period };
        left = record { need = demand_of kept -ℤ total_output kept (low_of kept); room = thermal_limit kept -ℤ thermal_sum kept (low_of kept) };
      }

      first : IsFirstLeft kept start.left
      first = record { need = refl; room = refl }

      begin : IsStart period start
      begin =
          let well = fillable period lawful within clear.balance.ranges clear in
          let low = low_sums period lawful within clear.balance.ranges in
          let power = All-get_or IsPower instance.demand t (pos 0) (subst (λ n. t < n) (sym lawful.demand_length) within) lawful.demand in
          started period start lawful within clear (record { shed = refl; short = refl }) first
          (up_to start.left.need (demand_at instance t) (MAX_UNITS * (50 * MAX_POWER)) (first_need kept start.left well first)
          (part-le start.left.need (demand_at instance t) (shed_of period) (total_output kept (low_of kept)) refl (shed_nonneg period) low.all) (power-le (demand_at instance t) power))
          (up_to start.left.room (heads period) (MAX_UNITS * (50 * MAX_POWER)) (first_room kept start.left well first)
          (part-le start.left.room (heads period) (int_max (need_of kept) (pos 0)) (thermal_sum kept (low_of kept)) refl (max_right (need_of kept) (pos 0)) low.thermal) heads-le)

      filled : HasFilling instance order (ranges_in period) start.left (length order)
      filled =
          filling instance order (ranges_in period) start.left are
          (open_ranges period (ranges_in period) lawful within clear.balance.ranges (ranges_are period lawful within sizes)) begin.sizes (length order) (omega arith)

      is_dispatched : IsDispatchedFrom period start.shortage filled.amounts (heads_in period)
      is_dispatched =
          dispatched_from instance patterns t before order (ranges_in period) start filled.amounts (heads_in period) filled.rest lawful within are
          (ranges_are period lawful within sizes) (heads_are period lawful within sizes) begin filled.is

-- ---- period after period
-- a schedule of which the first periods are filled, and these are the amounts of the last of them
pub record IsThrough (instance : Instance) (patterns : List Pattern) (t : ℕ) (numbers : List ℤ) : Type 0 where
  pub printed : Printed
  pub is : AreFilledBelow instance patterns t printed numbers

-- none is filled yet, after what the units give initially
pub begun : (instance : Instance) (patterns : List Pattern) (numbers : List ℤ) → IsLawfulInstance instance → length numbers ≡ source_count instance
    → ((g : ℕ) → g < thermal_count instance → thermal_amount instance numbers g ≡ initial_p (thermal_unit instance g)) → IsThrough instance patterns 0 numbers
begun instance patterns numbers lawful count initial = record {
  printed = idle instance patterns lawful;
  is = filled_none instance patterns (idle instance patterns lawful) numbers lawful (idle_committed instance patterns lawful) count initial;
}

-- a period more is filled, and written into the schedule
pub record HasMore (instance : Instance) (patterns : List Pattern) (t : ℕ) (numbers tops : List ℤ) (lack : Shortage) (old : Printed) : Type 0 where
  pub through : IsThrough instance patterns (suc t) numbers
  pub is : IsWritten instance numbers tops lack t old through.printed

-- Cite by `use Rattle.dispatch_repair.proofs.Endings.{more}`.
pub more : (instance : Instance) (patterns : List Pattern) (t : ℕ) (numbers after tops : List ℤ) (lack : Shortage) → t < instance.periods
    → (was : IsThrough instance patterns t numbers) → length after ≡ source_count instance
    → IsDispatchedFrom (period_after instance patterns t (thermal_amount instance numbers)) lack after tops
    → HasMore instance patterns t after tops lack was.printed
more instance patterns t numbers after tops lack within was count done =
    let new = written instance after tops lack t was.printed in
    let shape = written_shape instance after tops lack t was.printed was.is.committed.shape within in
    let is = written_is instance after tops lack t was.printed was.is.committed.shape within in
    record {
      through = record { printed = new; is = next_filled instance patterns t was.printed new numbers after tops lack shape count was.is within done is };
      is = is;
    }

module _ (instance : Instance) (patterns : List Pattern) (order : List Segment) (lawful : IsLawfulInstance instance)
    (are : AreInMeritOrder instance order) where
  abbrev initial : List ℤ
  initial = list_of (source_count instance) (λ n. initial_p (thermal_unit instance (n - renewable_count instance)))

  initial_is : (g : ℕ) → g < thermal_count instance → thermal_amount instance initial g ≡ initial_p (thermal_unit instance g)
  initial_is g h =
      listed (source_count instance) (λ n. initial_p (thermal_unit instance (n - renewable_count instance))) (renewable_count instance + g) (pos 0) (omega arith)
      ∙ ap (λ k. initial_p (thermal_unit instance k)) (omega arith)

  module _ (t : ℕ) (numbers : List ℤ) (within : t < instance.periods) (was : IsThrough instance patterns t numbers) where
    abbrev reached : Period
    reached = period_after instance patterns t (thermal_amount instance numbers)

    further : IsFree reached → (after : List ℤ) × IsThrough instance patterns (suc t) after
    further clear =
        let fill = filled instance patterns order lawful are t (thermal_amount instance numbers) within was.is.before.sizes clear in
        let lack = (start instance patterns order lawful are t (thermal_amount instance numbers) within was.is.before.sizes clear).shortage in
        let done = is_dispatched instance patterns order lawful are t (thermal_amount instance numbers) within was.is.before.sizes clear in (
          fill.amounts,
          (more instance patterns t numbers fill.amounts (heads_in reached) lack within was fill.is.count done).through,
        )

  module _ (regular : IsRegular instance patterns) where
    come : (t : ℕ) → t ≤ instance.periods → ((numbers : List ℤ) × IsThrough instance patterns t numbers) ⊎ IsEnded instance patterns
    come zero h = inl (initial, begun instance patterns initial lawful (listed_length (source_count instance) _) initial_is)
    come (suc t) h = elim (come t (omega arith)) [
      | inl was ↦ elim (judged (reached t was.0 (omega arith) was.1)) [
        | free clear ↦ inl (further t was.0 (omega arith) was.1 clear)
        | barred reason found ↦ inr (stuck (record { period = t; prefix = cut_at t was.1.printed; why = reason })
            (stuck_of instance patterns was.1.printed (record { period = t; why = reason }) (record { period = t; prefix = cut_at t was.1.printed; why = reason }) regular
            was.1.is.committed.shape (obstacle_of instance patterns t was.1.printed was.0 reason was.1.is (omega arith) found) (cut_stuck was.1.printed (record { period = t; why = reason }))))
      ]
      | inr over ↦ inr over
    ]

    -- Cite by `use Rattle.dispatch_repair.proofs.Endings.{ended}`.
    pub ended : IsEnded instance patterns
    ended = elim (come instance.periods (omega arith)) [
      | inl was ↦ dispatched was.1.printed (dispatch_through instance patterns was.1.printed was.0 regular was.1.is)
      | inr over ↦ over
    ]
