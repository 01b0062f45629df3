-- The printed schedule of a dispatch obeys: each rule holds of its numerators, as it holds of the dispatch's values over their denominator.
-- Cite by `use Rattle.dispatch_prices.proofs.Obeying.{dispatches_obey}`.
use Rattle.std.proofs.Common.{◌≡◌, ℕ, zero, suc, ◌<◌, ⊎_elim, false, not, sym, ap, subst, ◌∙◌, arith, List, ◌+ℤ◌, ◌-ℤ◌, ◌*ℤ◌, ◌≤ℤ◌, ◌<ℤ◌, IsTrue, nat_lt, int_le, ◌==◌, ◌&&◌, ◌||◌, ℤ, pos}
use Rattle.std.specs.Int.{int_max}
use Rattle.std.specs.Ordering.{int_eq}
use Rattle.std.proofs.lemmas.Int.{ints, clamps}
use Rattle.std.proofs.lemmas.Bool.{and_parts, and_from, ltb-true, or_left, or_right, cases_Bool, cond-true, cond-false}
use Rattle.uc_model.specs.Prelude.{sum_below, bit, output_of, Commitment, starts, start_cap, stop_cap, initial_p, must_run_at, initial_up_at, initial_down_at, minimum_up_at, minimum_down_at, is_allowed, is_allowed_at, thermal_unit, thermal_count, renewable_count, renewable_maximum, demand_at, reserve_at, cell_at, shed_at, short_at, IsLawfulInstance}
use Rattle.uc_model.specs.Rules as model
use Rattle.uc_model.proofs.Common.{linear, mul_nonneg, pos_nonneg, sum_below-le, sum_below-mul_left, sum_below_nonneg, le-int_le, eq-int_eq, all_below-at}
use Rattle.cost_curves.proofs.HullValues.{whole_width}
use Rattle.cost_curves.specs.LowerHull.{Point, width_of}
use Rattle.dual_model.proofs.Locality.{SameBelow, starts-same, stops-same, is_allowed-same, category_allowed-same}
use Rattle.schedule_check.specs.FirstBroken.{HoldsThroughout}
use Rattle.schedule_check.specs.WholeWatts as watts
use Rattle.schedule_check.proofs.Produced.{Holds}
use Rattle.schedule_check.proofs.FirstPlaces.{numerators, numerators_obey}
use Rattle.schedule_check.specs.SizedNumbers.{output_at}
use Rattle.dispatch_rules.specs.Prelude.{width_at, segments, Task, low_at, IsTask, IsDispatch, sum_of, length_in, output_in, held_in, given_in, shed_in, short_in, output_before, Printed, Prints}
use Rattle.dispatch_prices.specs.Dispatched.{IsAllowedTask, DispatchesObey}
use Rattle.dispatch_prices.proofs.Scaled.{Same, plus, minus, whole, none, sum, at_most, equal}

-- ---- numbers
max_nonneg : (z : ℤ) → pos 0 ≤ℤ int_max z (pos 0)
max_nonneg z = omega (arith, ints, clamps)

-- ---- widths
widths_sum : (corners : List Point) (n : ℕ) → sum_below n (width_at corners) ≡ output_of corners n
widths_sum corners zero = omega (arith, linear)
widths_sum corners (suc n) = let before = widths_sum corners n in omega (arith, linear)

module _ (task : Task) (d : ℤ) (v : ℕ → ℤ) (printed : Printed) (lawful : IsLawfulInstance task.instance) (is : IsTask task)
    (allowed : IsAllowedTask task) (some : pos 0 <ℤ d) (dispatch : IsDispatch task d v) (prints : Prints task d v printed) where
  abbrev q : ℤ
  q = pos printed.denominator

  low_q : pos 0 ≤ℤ pos printed.denominator
  low_q = pos_nonneg printed.denominator

  abbrev unit : ℕ → watts.Thermal
  unit g = thermal_unit task.instance g

  -- ---- the sums of the values, and the numerators
  abbrev given : ℕ → ℕ → ℤ
  given g t = sum_of task v (output_in g t)

  abbrev held : ℕ → ℕ → ℤ
  held g t = sum_of task v (held_in g t)

  output_is : (g t : ℕ) → g < thermal_count task.instance → t < task.instance.periods → Same d q (cell_at printed g t).p (given g t)
  output_is g t hg ht = record { is = prints.output g t hg ht }

  reserve_is : (g t : ℕ) → g < thermal_count task.instance → t < task.instance.periods → Same d q (cell_at printed g t).r (held g t)
  reserve_is g t hg ht = record { is = prints.reserve g t hg ht }

  shed_is : (t : ℕ) → t < task.instance.periods → Same d q (shed_at printed t) (sum_of task v (shed_in t))
  shed_is t ht = record { is = prints.shed t ht }

  short_is : (t : ℕ) → t < task.instance.periods → Same d q (short_at printed t) (sum_of task v (short_in t))
  short_is t ht = record { is = prints.short t ht }

  renewable_is : (w t : ℕ) → w < renewable_count task.instance → t < task.instance.periods
      → Same d q (output_at printed w t) (sum_of task v (given_in w t) +ℤ d *ℤ low_at task w t)
  renewable_is w t hw ht = record { is = prints.renewable w t hw ht }

  before_is : (g t : ℕ) → g < thermal_count task.instance → t < task.instance.periods
      → Same d q (watts.output_before_by (watts.over printed.denominator) (unit g) (watts.row_of printed g) t) (output_before task d v g t)
  before_is g zero hg ht = whole d q (initial_p (unit g))
  before_is g (suc t) hg ht = output_is g t hg (omega arith)

  -- a number of watts that a sum reaches
  at_most_watts : (a u c : ℤ) → Same d q a u → u ≤ℤ (d *ℤ c) → a ≤ℤ (q *ℤ c)
  at_most_watts a u c same less = at_most d q a (q *ℤ c) u (d *ℤ c) some low_q same (whole d q c) less

  not_negative : (a u : ℤ) → Same d q a u → pos 0 ≤ℤ u → pos 0 ≤ℤ a
  not_negative a u same low = at_most d q (pos 0) a (pos 0) u some low_q (none d q) same low

  nothing : (a u : ℤ) → Same d q a u → u ≡ pos 0 → a ≡ pos 0
  nothing a u same e = equal d q a (pos 0) u (pos 0) some low_q same (none d q) e

  -- ---- commitments
  abbrev shown : ℕ → Commitment
  shown g = watts.commitment (watts.row_of printed g)

  same_on : (g : ℕ) → g < thermal_count task.instance → SameBelow task.instance.periods (shown g) (task.on g)
  same_on g hg = record { same = λ t ht. prints.on g t hg ht }

  shown_allowed : (g : ℕ) → g < thermal_count task.instance → IsTrue (is_allowed task.instance.periods (unit g) (shown g))
  shown_allowed g hg = is_allowed-same task.instance.periods (unit g) (shown g) (task.on g) is.periods (same_on g hg) ∙ allowed g hg

  abbrev Keeps : ℕ → ℕ → Type 0
  Keeps g t =
      IsTrue (must_run_at (unit g) (shown g) t) × (IsTrue (initial_up_at (unit g) (shown g) t) × (IsTrue (initial_down_at (unit g) (shown g) t)
      × (IsTrue (minimum_up_at task.instance.periods (unit g) (shown g) t) × IsTrue (minimum_down_at task.instance.periods (unit g) (shown g) t))))

  keeps : (g t : ℕ) → g < thermal_count task.instance → t < task.instance.periods → Keeps g t
  keeps g t hg ht =
      let each = all_below-at task.instance.periods (is_allowed_at task.instance.periods (unit g) (shown g)) (and_parts _ _ (shown_allowed g hg)).1 t ht in
      let five = and_parts _ _ (and_parts _ _ each).0 in
      let four = and_parts _ _ five.0 in
      let three = and_parts _ _ four.0 in
      let two = and_parts _ _ three.0 in
      (two.0, (two.1, (three.1, (four.1, five.1))))

  category : HoldsThroughout task.instance (numerators task.instance printed) model.Category
  category g t hg ht =
      let begun = starts-same task.instance.periods (unit g) (shown g) (task.on g) (same_on g hg) t ht in
      let chosen = prints.category g t hg ht in
      ⊎_elim
      (λ (start : IsTrue (starts (unit g) (shown g) t)).
      cond-true _ _ _ start
      ∙ category_allowed-same task.instance.periods (unit g) (shown g) (task.on g) (same_on g hg) (cell_at printed g t).category t ht
      ∙ (chosen.start (sym begun ∙ start)).allowed)
      (λ (idle : starts (unit g) (shown g) t ≡ false).
      cond-false _ _ _ idle ∙ ap (λ c. c == 0) (chosen.none (sym begun ∙ idle)))
      (cases_Bool (starts (unit g) (shown g) t))

  -- ---- output and reserve
  low_output : (g t : ℕ) → pos 0 ≤ℤ given g t
  low_output g t =
      subst (λ z. pos 0 ≤ℤ z) (sym (dispatch.output g t))
      (sum_below_nonneg (segments (task.corners g)) (λ k. sum_of task v (length_in g t k)) (λ k h. dispatch.length_low g t k))

  most : (g t : ℕ) → g < thermal_count task.instance → t < task.instance.periods → IsTrue (task.on g t)
      → given g t ≤ℤ (d *ℤ width_of (unit g).points)
  most g t hg ht on =
      let corners = task.corners g in
      let each = sum_below-le (segments (task.corners g)) (λ k. sum_of task v (length_in g t k)) (λ k. d *ℤ width_at (task.corners g) k)
      (λ k hk. dispatch.length_high g t k hg ht on hk) in
      let total = sum_below-mul_left (segments (task.corners g)) d (width_at (task.corners g)) in
      let across = ap (λ z. d *ℤ z) (widths_sum (task.corners g) (segments (task.corners g))) in
      let last = ap (λ z. d *ℤ z) (whole_width (unit g).points (task.corners g) (is.hulls g hg)) in
      let sums = dispatch.output g t in
      omega (arith, linear)

  pub holds_cell : (g t : ℕ) → g < thermal_count task.instance → t < task.instance.periods
      → Holds (watts.over printed.denominator) (unit g) (watts.cell (watts.row_of printed g) t)
  holds_cell g t hg ht =
      let on = prints.on g t hg ht in record {
        low = λ e. not_negative _ _ (output_is g t hg ht) (low_output g t);
        high = λ e. at_most_watts _ _ (width_of (unit g).points) (output_is g t hg ht) (most g t hg ht (sym on ∙ e));
        idle = λ e. nothing _ _ (output_is g t hg ht) (dispatch.idle_output g t (sym on ∙ e));
        reserve = not_negative _ _ (reserve_is g t hg ht) (dispatch.reserve_low g t);
        none = λ e. nothing _ _ (reserve_is g t hg ht) (dispatch.idle_reserve g t (sym on ∙ e));
      }

  production : HoldsThroughout task.instance (numerators task.instance printed) model.Production
  production g t hg ht =
      let holds = holds_cell g t hg ht in
      ⊎_elim
      (λ (on : IsTrue (watts.cell (watts.row_of printed g) t).on).
      cond-true _ _ _ on ∙ and_from _ _ (and_from _ _ (le-int_le _ _ (holds.low on)) (le-int_le _ _ (holds.high on))) (le-int_le _ _ holds.reserve))
      (λ (off : (watts.cell (watts.row_of printed g) t).on ≡ false).
      cond-false _ _ _ off ∙ and_from _ _ (eq-int_eq _ _ (holds.idle off)) (eq-int_eq _ _ (holds.none off)))
      (cases_Bool (watts.cell (watts.row_of printed g) t).on)

  both_is : (g t : ℕ) → g < thermal_count task.instance → t < task.instance.periods
      → Same d q ((cell_at printed g t).p +ℤ (cell_at printed g t).r) (given g t +ℤ held g t)
  both_is g t hg ht = plus d q _ _ _ _ (output_is g t hg ht) (reserve_is g t hg ht)

  start_limit : HoldsThroughout task.instance (numerators task.instance printed) model.StartCap
  start_limit g t hg ht =
      let cap_is : start_cap (unit g) (task.on g) t ≡ start_cap (unit g) (shown g) t =
      λ i. ((unit g).pmax -ℤ (unit g).pmin) *ℤ bit (sym ((same_on g hg).same t ht) i)
      -ℤ int_max ((unit g).pmax -ℤ (unit g).su) (pos 0) *ℤ bit (sym (starts-same task.instance.periods (unit g) (shown g) (task.on g) (same_on g hg) t ht) i) in
      le-int_le _ _ (subst (λ c. ((cell_at printed g t).p +ℤ (cell_at printed g t).r) ≤ℤ (q *ℤ c)) cap_is
      (at_most_watts _ _ (start_cap (unit g) (task.on g) t) (both_is g t hg ht) (dispatch.start g t hg ht)))

  stop_limit : HoldsThroughout task.instance (numerators task.instance printed) model.StopCap
  stop_limit g t hg ht = ⊎_elim
      (λ (more : IsTrue (nat_lt (suc t) task.instance.periods)).
      let next = ltb-true (suc t) task.instance.periods more in
      let cap_is : stop_cap (unit g) (task.on g) t ≡ stop_cap (unit g) (shown g) t =
      λ i. ((unit g).pmax -ℤ (unit g).pmin) *ℤ bit (sym ((same_on g hg).same t ht) i)
      -ℤ int_max ((unit g).pmax -ℤ (unit g).sd) (pos 0) *ℤ bit (sym (stops-same task.instance.periods (unit g) (shown g) (task.on g) (same_on g hg) (suc t) next) i) in
      or_right (not (nat_lt (suc t) task.instance.periods)) _
      (le-int_le _ _ (subst (λ c. ((cell_at printed g t).p +ℤ (cell_at printed g t).r) ≤ℤ (q *ℤ c)) cap_is
      (at_most_watts _ _ (stop_cap (unit g) (task.on g) t) (both_is g t hg ht) (dispatch.stop g t hg next)))))
      (λ (last : nat_lt (suc t) task.instance.periods ≡ false). or_left (not (nat_lt (suc t) task.instance.periods)) _ (ap not last))
      (cases_Bool (nat_lt (suc t) task.instance.periods))

  ramp_up : HoldsThroughout task.instance (numerators task.instance printed) model.RampUp
  ramp_up g t hg ht =
      le-int_le _ _ (at_most_watts _ _ (unit g).ru (minus d q _ _ _ _ (both_is g t hg ht) (before_is g t hg ht)) (dispatch.ramp_up g t hg ht))

  ramp_down : HoldsThroughout task.instance (numerators task.instance printed) model.RampDown
  ramp_down g t hg ht =
      le-int_le _ _ (at_most_watts _ _ (unit g).rd (minus d q _ _ _ _ (before_is g t hg ht) (output_is g t hg ht)) (dispatch.ramp_down g t hg ht))

  -- ---- the system
  renewable_range : HoldsThroughout task.instance (numerators task.instance printed) model.RenewableRange
  renewable_range w t hw ht =
      let more = dispatch.renewable_low w t in
      let least : (d *ℤ low_at task w t) ≤ℤ (sum_of task v (given_in w t) +ℤ d *ℤ low_at task w t) = omega (arith, linear) in
      and_from _ _
      (le-int_le _ _ (at_most d q _ _ (d *ℤ low_at task w t) _ some low_q (whole d q (low_at task w t)) (renewable_is w t hw ht) least))
      (le-int_le _ _ (at_most_watts _ _ (renewable_maximum task.instance w t) (renewable_is w t hw ht) (dispatch.renewable_high w t hw ht)))

  supplied : (g t : ℕ) → g < thermal_count task.instance → t < task.instance.periods
      → Same d q (watts.thermal_supply_by (watts.over printed.denominator) task.instance printed g t) (given g t +ℤ d *ℤ ((unit g).pmin *ℤ bit (task.on g t)))
  supplied g t hg ht =
      plus d q _ _ _ _ (output_is g t hg ht)
      (subst (λ b. Same d q (q *ℤ ((unit g).pmin *ℤ bit b)) (d *ℤ ((unit g).pmin *ℤ bit (task.on g t)))) (sym (prints.on g t hg ht))
      (whole d q ((unit g).pmin *ℤ bit (task.on g t))))

  demand : HoldsThroughout task.instance (numerators task.instance printed) model.Demand
  demand g t hg ht =
      let units = sum d q (thermal_count task.instance) (λ k. watts.thermal_supply_by (watts.over printed.denominator) task.instance printed k t)
      (λ k. given k t +ℤ d *ℤ ((unit k).pmin *ℤ bit (task.on k t))) (λ k hk. supplied k t hk ht) in
      let renewables = sum d q (renewable_count task.instance) (λ w. output_at printed w t)
      (λ w. sum_of task v (given_in w t) +ℤ d *ℤ low_at task w t) (λ w hw. renewable_is w t hw ht) in
      eq-int_eq _ _ (equal d q _ _ _ _ some low_q (plus d q _ _ _ _ (plus d q _ _ _ _ units renewables) (shed_is t ht)) (whole d q (demand_at task.instance t))
      (dispatch.demand t ht))

  reserve : HoldsThroughout task.instance (numerators task.instance printed) model.Reserve
  reserve g t hg ht =
      let units = sum d q (thermal_count task.instance) (λ k. (cell_at printed k t).r) (λ k. held k t) (λ k hk. reserve_is k t hk ht) in
      le-int_le _ _ (at_most d q _ _ _ _ some low_q (whole d q (reserve_at task.instance t)) (plus d q _ _ _ _ units (short_is t ht)) (dispatch.reserve t ht))

  within : (price : ℕ) (need missing u : ℤ) → Same d q missing u → pos 0 ≤ℤ u → (IsTrue (nat_lt 0 price) → u ≤ℤ (d *ℤ int_max need (pos 0)))
      → (nat_lt 0 price ≡ false → u ≡ pos 0)
      → IsTrue (int_le (pos 0) missing && int_le missing (q *ℤ int_max need (pos 0)) && (nat_lt 0 price || int_eq missing (pos 0)))
  within price need missing u same low high no_price = ⊎_elim
      (λ (priced : IsTrue (nat_lt 0 price)).
      and_from _ _ (and_from _ _ (le-int_le _ _ (not_negative missing u same low)) (le-int_le _ _ (at_most_watts missing u (int_max need (pos 0)) same (high priced))))
      (or_left (nat_lt 0 price) _ priced))
      (λ (free : nat_lt 0 price ≡ false).
      let nought = nothing missing u same (no_price free) in
      let zero_u = no_price free in
      let part = mul_nonneg d (int_max need (pos 0)) (omega (arith, linear)) (max_nonneg need) in
      and_from _ _ (and_from _ _ (le-int_le _ _ (not_negative missing u same low))
      (le-int_le _ _ (at_most_watts missing u (int_max need (pos 0)) same (omega (arith, linear)))))
      (or_right (nat_lt 0 price) _ (eq-int_eq _ _ nought)))
      (cases_Bool (nat_lt 0 price))

  shed_range : HoldsThroughout task.instance (numerators task.instance printed) model.ShedRange
  shed_range g t hg ht =
      within task.instance.a (demand_at task.instance t) (shed_at printed t) _ (shed_is t ht) (dispatch.shed_low t) (dispatch.shed_high t ht) (dispatch.no_shed t)

  short_range : HoldsThroughout task.instance (numerators task.instance printed) model.ShortRange
  short_range g t hg ht =
      within task.instance.b (reserve_at task.instance t) (short_at printed t) _ (short_is t ht) (dispatch.short_low t) (dispatch.short_high t ht) (dispatch.no_short t)

  each : (rule : model.Rule) → HoldsThroughout task.instance (numerators task.instance printed) rule
  each model.MustRun = λ g t hg ht. (keeps g t hg ht).0
  each model.InitialUp = λ g t hg ht. (keeps g t hg ht).1.0
  each model.InitialDown = λ g t hg ht. (keeps g t hg ht).1.1.0
  each model.MinimumUp = λ g t hg ht. (keeps g t hg ht).1.1.1.0
  each model.MinimumDown = λ g t hg ht. (keeps g t hg ht).1.1.1.1
  each model.Category = category
  each model.InitialStop = λ g t hg ht. (and_parts _ _ (shown_allowed g hg)).0
  each model.Production = production
  each model.StartCap = start_limit
  each model.StopCap = stop_limit
  each model.RampUp = ramp_up
  each model.RampDown = ramp_down
  each model.RenewableRange = renewable_range
  each model.Demand = demand
  each model.Reserve = reserve
  each model.ShedRange = shed_range
  each model.ShortRange = short_range

pub dispatches_obey : DispatchesObey
dispatches_obey task d v printed lawful is allowed some dispatch prints =
    numerators_obey task.instance printed lawful prints.shape.denominator.0 (each task d v printed lawful is allowed some dispatch prints)
