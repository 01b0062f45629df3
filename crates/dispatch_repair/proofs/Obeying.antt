-- A dispatch obeys: each rule holds of its whole watts, since its commitment keeps the rules on commitments and each period is filled.
-- Cite by `use Rattle.dispatch_repair.proofs.Obeying.{obeying}`.
use Rattle.std.proofs.Common.{◌≡◌, ℕ, zero, suc, ◌<◌, ⊎_elim, false, not, refl, sym, ap, subst, ◌∙◌, arith, List, ◌+ℤ◌, ◌-ℤ◌, ◌*ℤ◌, ◌≤ℤ◌, IsTrue, nat_lt, int_le, ◌==◌, ◌&&◌, ◌||◌, ℤ, pos}
use Rattle.std.specs.Int.{int_max}
use Rattle.std.specs.Ordering.{int_eq}
use Rattle.std.proofs.lemmas.Bool.{and_from, or_left, or_right, cases_Bool, cond-true, cond-false}
use Rattle.uc_model.specs.Prelude.{sum_below, bit, Commitment, starts, cap, thermal_unit, thermal_count, demand_at, reserve_at, Obeys, cell_at, shed_at, short_at, printed_denominator, printed_schedule, IsLawfulInstance}
use Rattle.uc_model.specs.Rules as model
use Rattle.uc_model.proofs.Common.{linear, le_trans, sum_below-same, sum_below-add, le-int_le, eq-int_eq}
use Rattle.dual_model.proofs.Locality.{SameBelow, starts-same, cap-same, category_allowed-same}
use Rattle.schedule_check.specs.FirstBroken.{HoldsThroughout}
use Rattle.schedule_check.specs.WholeWatts as whole
use Rattle.schedule_check.proofs.Produced.{holds_to}
use Rattle.schedule_check.proofs.CommitmentOrder.{turn, on_commitments}
use Rattle.schedule_check.proofs.FirstPlaces.{watts, obeys_stands}
use Rattle.schedule_check.specs.SizedNumbers.{output_at}
use Rattle.dispatch_repair.specs.Prelude.{Instance, Pattern, Printed, FromRenewable, commitment_at, output_before, IsDispatchThrough, IsRegular}
use Rattle.dispatch_repair.specs.Period.{minimums}
use Rattle.dispatch_repair.specs.Dispatch.{amounts}
use Rattle.dispatch_repair.proofs.RowRules.{turn_rule}
use Rattle.dispatch_repair.proofs.Filled.{filled_period, cell_within, cell-le-cap, cell-le-ramp, cell_idle, reserve_reached, cap-le-start_cap, cap-le-stop_cap}
use Rattle.dispatch_repair.proofs.Shortages.{IsPart, filled_shed, filled_short, price_cases}

-- what a unit gave before, by its row and by its cells
before_same : (instance : Instance) (printed : Printed) (g t : ℕ)
    → whole.output_before (thermal_unit instance g) (whole.row_of printed g) t ≡ output_before instance printed g t
before_same instance printed g zero = refl
before_same instance printed g (suc t) = refl

module _ (instance : Instance) (patterns : List Pattern) (printed : Printed) (lawful : IsLawfulInstance instance)
    (regular : IsRegular instance patterns) (dispatch : IsDispatchThrough instance patterns instance.periods printed) where
  -- ---- commitments
  -- unit g's commitment by its row
  abbrev shown : ℕ → Commitment
  shown g = whole.commitment (whole.row_of printed g)

  same : (g : ℕ) → g < thermal_count instance → SameBelow instance.periods (shown g) (commitment_at patterns g)
  same g hg = record { same = λ t ht. ((dispatch.filled t ht).cells g hg).on }

  -- the rules by their turn: M1 to M5, and M7
  regular_in : (k : ℕ) → k < 6 → (g t : ℕ) → g < thermal_count instance → t < instance.periods
      → IsTrue (whole.unit_holds (turn k) instance.periods (thermal_unit instance g) (whole.row_of printed g) t)
  regular_in k h g t hg ht =
      turn_rule instance patterns g (whole.row_of printed g) lawful.periods.0 (same g hg) k h t ht
      ∙ regular (whole.rule_of (turn k)) (on_commitments k h) g hg t ht

  category : HoldsThroughout instance (watts instance printed) model.Category
  category g t hg ht =
      let unit = thermal_unit instance g in
      let on = commitment_at patterns g in
      let chosen = (dispatch.filled t ht).cells g hg in
      let begun = starts-same instance.periods unit (shown g) on (same g hg) t ht in
      ⊎_elim
      (λ (start : IsTrue (starts unit (shown g) t)).
      cond-true _ _ _ start
      ∙ category_allowed-same instance.periods unit (shown g) on (same g hg) (cell_at printed g t).category t ht
      ∙ (chosen.start (sym begun ∙ start)).allowed)
      (λ (none : starts unit (shown g) t ≡ false).
      cond-false _ _ _ none ∙ ap (λ c. c == 0) (chosen.none (sym begun ∙ none)))
      (cases_Bool (starts unit (shown g) t))

  -- ---- output and reserve
  production : HoldsThroughout instance (watts instance printed) model.Production
  production g t hg ht =
      let filled = dispatch.filled t ht in
      let inside = cell_within instance patterns printed t filled g hg in
      let off = λ (e : shown g t ≡ false). cell_idle instance patterns printed t filled g hg (sym ((same g hg).same t ht) ∙ e) in
      holds_to (thermal_unit instance g) (whole.row_of printed g) t
      (record { low = λ e. inside.low; high = λ e. inside.curve; idle = λ e. (off e).0; reserve = inside.reserve; none = λ e. (off e).1 })

  capped : (g t : ℕ) → g < thermal_count instance → t < instance.periods
      → ((cell_at printed g t).p +ℤ (cell_at printed g t).r) ≤ℤ cap instance.periods (thermal_unit instance g) (shown g) t
  capped g t hg ht =
      subst (λ c. ((cell_at printed g t).p +ℤ (cell_at printed g t).r) ≤ℤ c)
      (sym (cap-same instance.periods (thermal_unit instance g) (shown g) (commitment_at patterns g) (same g hg) t ht))
      (cell-le-cap instance patterns printed t (dispatch.filled t ht) g hg)

  start_limit : HoldsThroughout instance (watts instance printed) model.StartCap
  start_limit g t hg ht =
      le-int_le _ _ (le_trans _ _ _ (capped g t hg ht) (cap-le-start_cap instance.periods (thermal_unit instance g) (shown g) t))

  stop_limit : HoldsThroughout instance (watts instance printed) model.StopCap
  stop_limit g t hg ht = ⊎_elim
      (λ (more : IsTrue (nat_lt (suc t) instance.periods)).
      or_right (not (nat_lt (suc t) instance.periods)) _
      (le-int_le _ _ (le_trans _ _ _ (capped g t hg ht) (cap-le-stop_cap instance.periods (thermal_unit instance g) (shown g) t more))))
      (λ (last : nat_lt (suc t) instance.periods ≡ false). or_left (not (nat_lt (suc t) instance.periods)) _ (ap not last))
      (cases_Bool (nat_lt (suc t) instance.periods))

  ramp_up : HoldsThroughout instance (watts instance printed) model.RampUp
  ramp_up g t hg ht =
      let unit = thermal_unit instance g in
      let room = cell-le-ramp instance patterns printed t (dispatch.filled t ht) g hg in
      let before = before_same instance printed g t in
      let rise : ((cell_at printed g t).p +ℤ (cell_at printed g t).r -ℤ whole.output_before unit (whole.row_of printed g) t) ≤ℤ unit.ru =
      omega (arith, linear, room, before) in
      le-int_le _ _ rise

  ramp_down : HoldsThroughout instance (watts instance printed) model.RampDown
  ramp_down g t hg ht =
      let unit = thermal_unit instance g in
      let inside = cell_within instance patterns printed t (dispatch.filled t ht) g hg in
      let before = before_same instance printed g t in
      let fall : (whole.output_before unit (whole.row_of printed g) t -ℤ (cell_at printed g t).p) ≤ℤ unit.rd =
      omega (arith, linear, inside.fall, before) in
      le-int_le _ _ fall

  -- ---- the system
  renewable_range : HoldsThroughout instance (watts instance printed) model.RenewableRange
  renewable_range w t hw ht =
      let merit = (dispatch.filled t ht).merit in
      and_from _ _ (le-int_le _ _ (merit.low (FromRenewable w) hw)) (le-int_le _ _ (merit.high (FromRenewable w) hw))

  -- what the thermal units give with their minimums
  thermal-is : (t : ℕ) → t < instance.periods → sum_below (thermal_count instance) (λ g. whole.thermal_supply instance printed g t)
      ≡ sum_below (thermal_count instance) (λ g. (cell_at printed g t).p) +ℤ minimums (filled_period instance patterns printed t)
  thermal-is t ht =
      sum_below-same (thermal_count instance) (λ g. whole.thermal_supply instance printed g t)
      (λ g. (cell_at printed g t).p +ℤ (thermal_unit instance g).pmin *ℤ bit (commitment_at patterns g t))
      (λ g hg. ap (λ b. (cell_at printed g t).p +ℤ (thermal_unit instance g).pmin *ℤ bit b) ((same g hg).same t ht))
      ∙ sum_below-add (thermal_count instance) (λ g. (cell_at printed g t).p) (λ g. (thermal_unit instance g).pmin *ℤ bit (commitment_at patterns g t))

  demand : HoldsThroughout instance (watts instance printed) model.Demand
  demand g t hg ht =
      let met : whole.supply_at instance printed t +ℤ shed_at printed t ≡ demand_at instance t =
      omega (arith, linear, thermal-is t ht, (dispatch.filled t ht).merit.demand) in
      eq-int_eq _ _ met

  reserve : HoldsThroughout instance (watts instance printed) model.Reserve
  reserve g t hg ht =
      let filled = dispatch.filled t ht in
      let reached = reserve_reached (filled_period instance patterns printed t) (amounts (λ k. cell_at printed k t) (λ w. output_at printed w t))
      (λ k. (cell_at printed k t).r) filled.merit filled.reserve in
      let enough : reserve_at instance t ≤ℤ (whole.reserve_supply_at instance printed t +ℤ short_at printed t) =
      omega (arith, linear, reached) in
      le-int_le _ _ enough

  -- what is missing is a part of what is needed, where it has a price
  within : (price : ℕ) (need missing : ℤ) → IsPart price need missing
      → IsTrue (int_le (pos 0) missing && int_le missing (int_max need (pos 0)) && (nat_lt 0 price || int_eq missing (pos 0)))
  within price need missing part =
      and_from _ _ (and_from _ _ (le-int_le (pos 0) missing part.low) (le-int_le missing (int_max need (pos 0)) part.high))
      (⊎_elim (λ some. or_left (nat_lt 0 price) _ some) (λ none. or_right (nat_lt 0 price) _ (eq-int_eq missing (pos 0) (part.none none))) (price_cases price))

  shed_range : HoldsThroughout instance (watts instance printed) model.ShedRange
  shed_range g t hg ht =
      within instance.a (demand_at instance t) (shed_at printed t) (filled_shed instance patterns printed t lawful ht (dispatch.filled t ht))

  short_range : HoldsThroughout instance (watts instance printed) model.ShortRange
  short_range g t hg ht =
      within instance.b (reserve_at instance t) (short_at printed t) (filled_short instance patterns printed t lawful ht (dispatch.filled t ht))

  each : (rule : model.Rule) → HoldsThroughout instance (watts instance printed) rule
  each model.MustRun = regular_in 0 (omega arith)
  each model.InitialUp = regular_in 1 (omega arith)
  each model.InitialDown = regular_in 2 (omega arith)
  each model.MinimumUp = regular_in 3 (omega arith)
  each model.MinimumDown = regular_in 4 (omega arith)
  each model.Category = category
  each model.InitialStop = λ g t hg ht. regular_in 5 (omega arith) g 0 hg lawful.periods.0
  each model.Production = production
  each model.StartCap = start_limit
  each model.StopCap = stop_limit
  each model.RampUp = ramp_up
  each model.RampDown = ramp_down
  each model.RenewableRange = renewable_range
  each model.Demand = demand
  each model.Reserve = reserve
  each model.ShedRange = shed_range
  each model.ShortRange = short_range

  pub obeying : let q = printed_denominator instance printed in Obeys instance q (printed_schedule instance printed q)
  obeying = obeys_stands instance printed lawful dispatch.shape.whole each
