-- The bounds of the cells and the other parts of a node's value sum to the right side of the last row.
-- Cite by `use Rattle.dispatch_rules.proofs.Totals.{total_whole}`.
use Rattle.std.proofs.Common.{◌≡◌, ◌≢◌, ℕ, zero, suc, ◌<◌, nat_lt, Bool, true, false, not, ◌&&◌, ⊎_elim, refl, sym, ap, ◌∙◌, arith, List, ℤ, pos, ◌+ℤ◌, ◌-ℤ◌, ◌*ℤ◌, neg_ℤ, IsTrue}
use Rattle.std.proofs.lemmas.Bool.{cases_Bool, cond-true, cond-false, true≢false}
use Rattle.uc_model.specs.Prelude.{sum_below, bit, point_of, Rule, Production, StartCap, StopCap, RampUp, RampDown, RenewableRange, Demand, Reserve, ShedRange, ShortRange, start_cap, stop_cap, start_reduction, stop_reduction, initial_p, was_on, thermal_unit, thermal_count, renewable_count, demand_at, reserve_at}
use Rattle.uc_model.proofs.Common.{linear, mul-one, mul-neg, neg-mul, mul-zero, zero-mul, mul-add, mul-sub, sub-mul, sum_below-same, sum_below-add, sum_below-sub, sum_below-neg, sum_below-single, sum_below-mul_left, sum_below-swap}
use Rattle.pivot_run.specs.Prelude.{entry}
use Rattle.dispatch_program.specs.Prelude.{RightSide, place, IsLastRow}
use Rattle.dispatch_rules.specs.Cells.{segments, width_at}
use Rattle.dispatch_rules.specs.Dispatch.{Task, Limit, limit, copies, right_of, initial_at, low_at, given_output, program, over_limits}
use Rattle.dispatch_rules.specs.Duals.{IsTask, times_at, scale_of, pi_of, mu_of, up_of, down_of, bound_of, caps_of, needs_part, period_part, constant_part, renewable_part, total_part, left_cost, left_costs}
use Rattle.dispatch_rules.proofs.Duals.{right_sum, no_stop}

-- ---- sums of sums
sums-same : (n m : ℕ) (f h : ℕ → ℕ → ℤ) → ((i j : ℕ) → f i j ≡ h i j) → sum_below n (λ i. sum_below m (f i)) ≡ sum_below n (λ i. sum_below m (h i))
sums-same n m f h e = sum_below-same n (λ i. sum_below m (f i)) (λ i. sum_below m (h i)) (λ i l. sum_below-same m (f i) (h i) (λ j k. e i j))

sums-add : (n m : ℕ) (f h : ℕ → ℕ → ℤ) → sum_below n (λ i. sum_below m (λ j. f i j +ℤ h i j)) ≡ sum_below n (λ i. sum_below m (f i)) +ℤ sum_below n (λ i. sum_below m (h i))
sums-add n m f h =
    sum_below-same n (λ i. sum_below m (λ j. f i j +ℤ h i j)) (λ i. sum_below m (f i) +ℤ sum_below m (h i)) (λ i l. sum_below-add m (f i) (h i))
    ∙ sum_below-add n (λ i. sum_below m (f i)) (λ i. sum_below m (h i))

sums-sub : (n m : ℕ) (f h : ℕ → ℕ → ℤ) → sum_below n (λ i. sum_below m (λ j. f i j -ℤ h i j)) ≡ sum_below n (λ i. sum_below m (f i)) -ℤ sum_below n (λ i. sum_below m (h i))
sums-sub n m f h =
    sum_below-same n (λ i. sum_below m (λ j. f i j -ℤ h i j)) (λ i. sum_below m (f i) -ℤ sum_below m (h i)) (λ i l. sum_below-sub m (f i) (h i))
    ∙ sum_below-sub n (λ i. sum_below m (f i)) (λ i. sum_below m (h i))

-- a factor of each place, into the sum over the others
turned : (n m : ℕ) (c : ℕ → ℤ) (f : ℕ → ℕ → ℤ) → sum_below m (λ t. c t *ℤ sum_below n (λ g. f g t)) ≡ sum_below n (λ g. sum_below m (λ t. c t *ℤ f g t))
turned n m c f =
    sum_below-same m (λ t. c t *ℤ sum_below n (λ g. f g t)) (λ t. sum_below n (λ g. c t *ℤ f g t)) (λ t l. sym (sum_below-mul_left n (c t) (λ g. f g t)))
    ∙ sum_below-swap m n (λ t g. c t *ℤ f g t)

module _ (task : Task) (row : List ℤ) (is : IsTask task) (last : IsLastRow (program task) row) where
  abbrev m : Limit → ℤ
  m = times_at task row

  -- what the limits of a rule at a unit and a period add to the right side
  abbrev at : Rule → ℕ → ℕ → ℤ
  at rule g t = sum_below (copies task rule g t) (λ k. m (limit rule g t k) *ℤ right_of task (limit rule g t k))

  abbrev periods : ℕ
  periods = task.instance.periods

  abbrev units : ℕ
  units = thermal_count task.instance

  abbrev renewables : ℕ
  renewables = renewable_count task.instance

  -- of a unit's rules M8 to M12
  abbrev unit_at : ℕ → ℕ → ℤ
  unit_at g t = at Production g t +ℤ at StartCap g t +ℤ at StopCap g t +ℤ at RampUp g t +ℤ at RampDown g t

  -- of the system's rules
  abbrev system_at : ℕ → ℤ
  system_at t = at Demand 0 t +ℤ at Reserve 0 t +ℤ at ShedRange 0 t +ℤ at ShortRange 0 t

  abbrev over : ℕ → (ℕ → ℕ → ℤ) → ℤ
  over n f = sum_below n (λ g. sum_below periods (f g))

  right_parts : entry row (place (program task) RightSide) ≡ over units unit_at +ℤ over renewables (at RenewableRange) +ℤ sum_below periods system_at
  right_parts =
      let whole = right_sum task row is last in
      let first = sums-add units periods (at Production) (at StartCap) in
      let second = sums-add units periods (λ g t. at Production g t +ℤ at StartCap g t) (at StopCap) in
      let third = sums-add units periods (λ g t. at Production g t +ℤ at StartCap g t +ℤ at StopCap g t) (at RampUp) in
      let fourth = sums-add units periods (λ g t. at Production g t +ℤ at StartCap g t +ℤ at StopCap g t +ℤ at RampUp g t) (at RampDown) in
      let fifth = sum_below-add periods (at Demand 0) (at Reserve 0) in
      let sixth = sum_below-add periods (λ t. at Demand 0 t +ℤ at Reserve 0 t) (at ShedRange 0) in
      let seventh = sum_below-add periods (λ t. at Demand 0 t +ℤ at Reserve 0 t +ℤ at ShedRange 0 t) (at ShortRange 0) in
      let parts : over_limits task (λ l. m l *ℤ right_of task l)
      ≡ over units (at Production) +ℤ over units (at StartCap) +ℤ over units (at StopCap) +ℤ over units (at RampUp) +ℤ over units (at RampDown)
      +ℤ over renewables (at RenewableRange) +ℤ sum_below periods (at Demand 0) +ℤ sum_below periods (at Reserve 0)
      +ℤ sum_below periods (at ShedRange 0) +ℤ sum_below periods (at ShortRange 0) = omega (arith, linear) in
      omega (arith, linear)

  -- ---- a unit in a period
  start_cap-off : (g t : ℕ) → task.on g t ≡ false → start_cap (thermal_unit task.instance g) (task.on g) t ≡ pos 0
  start_cap-off g t off =
      let unit = thermal_unit task.instance g in
      capped (unit.pmax -ℤ unit.pmin) (start_reduction unit) (task.on g t) (not (was_on unit (task.on g) t)) off
    where
      capped : (a b : ℤ) (on other : Bool) → on ≡ false → a *ℤ bit on -ℤ b *ℤ bit (other && on) ≡ pos 0
      capped a b true other h = absurd (true≢false h)
      capped a b false true h = let x = mul-zero a in let y = mul-zero b in omega (arith, linear)
      capped a b false false h = let x = mul-zero a in let y = mul-zero b in omega (arith, linear)

  stop_cap-off : (g t : ℕ) → task.on g t ≡ false → stop_cap (thermal_unit task.instance g) (task.on g) t ≡ pos 0
  stop_cap-off g t off =
      let unit = thermal_unit task.instance g in
      capped (unit.pmax -ℤ unit.pmin) (stop_reduction unit) (task.on g t) (not (task.on g (suc t))) off
    where
      capped : (a b : ℤ) (on other : Bool) → on ≡ false → a *ℤ bit on -ℤ b *ℤ bit (on && other) ≡ pos 0
      capped a b true other h = absurd (true≢false h)
      capped a b false other h = let x = mul-zero a in let y = mul-zero b in omega (arith, linear)

  caps_off : (g t : ℕ) → task.on g t ≡ false → caps_of task row g t ≡ pos 0
  caps_off g t off =
      let first : m (limit StartCap g t 0) *ℤ start_cap (thermal_unit task.instance g) (task.on g) t ≡ pos 0 =
      ap (λ z. m (limit StartCap g t 0) *ℤ z) (start_cap-off g t off) ∙ mul-zero (m (limit StartCap g t 0)) in
      let second : m (limit StopCap g t 0) *ℤ stop_cap (thermal_unit task.instance g) (task.on g) t ≡ pos 0 =
      ap (λ z. m (limit StopCap g t 0) *ℤ z) (stop_cap-off g t off) ∙ mul-zero (m (limit StopCap g t 0)) in
      omega (arith, linear)

  -- the limit M10 adds its cap's worth, also where it isn't there
  stop_worth : (g t : ℕ) → at StopCap g t ≡ m (limit StopCap g t 0) *ℤ stop_cap (thermal_unit task.instance g) (task.on g) t
  stop_worth g t = ⊎_elim
      (λ (before : IsTrue (nat_lt (suc t) periods)).
      ap (λ n. sum_below n (λ k. m (limit StopCap g t k) *ℤ right_of task (limit StopCap g t k))) (cond-true (nat_lt (suc t) periods) 1 0 before)
      ∙ omega (arith, linear))
      (λ (final : nat_lt (suc t) periods ≡ false).
      ap (λ n. sum_below n (λ k. m (limit StopCap g t k) *ℤ right_of task (limit StopCap g t k))) (cond-false (nat_lt (suc t) periods) 1 0 final)
      ∙ sym (ap (λ z. z *ℤ stop_cap (thermal_unit task.instance g) (task.on g) t) (no_stop task row is last g t final)
      ∙ zero-mul (stop_cap (thermal_unit task.instance g) (task.on g) t)))
      (cases_Bool (nat_lt (suc t) periods))

  abbrev given_at : ℕ → ℕ → ℤ
  given_at g t = (thermal_unit task.instance g).pmin *ℤ bit (task.on g t)

  -- the part of an on cell, or of an off one
  cell_part : (g t : ℕ) → period_part task row g t ≡ left_cost task row g t -ℤ (at Production g t +ℤ caps_of task row g t) -ℤ pi_of task row t *ℤ given_at g t
  cell_part g t = ⊎_elim
      (λ (on : IsTrue (task.on g t)).
      let own = cond-true (task.on g t) (bound_of task row g t -ℤ pi_of task row t *ℤ (thermal_unit task.instance g).pmin) (pos 0) on in
      let cost = cond-true (task.on g t) (scale_of task row *ℤ (point_of (task.corners g) 0).cost) (pos 0) on in
      let lengths : at Production g t ≡ sum_below (segments (task.corners g)) (λ k. m (limit Production g t k) *ℤ width_at (task.corners g) k) =
      ap (λ n. sum_below n (λ k. m (limit Production g t k) *ℤ width_at (task.corners g) k)) (cond-true (task.on g t) (segments (task.corners g)) 0 on) in
      let output : pi_of task row t *ℤ given_at g t ≡ pi_of task row t *ℤ (thermal_unit task.instance g).pmin =
      ap (λ b. pi_of task row t *ℤ ((thermal_unit task.instance g).pmin *ℤ bit b)) on ∙ ap (λ z. pi_of task row t *ℤ z) (mul-one (thermal_unit task.instance g).pmin) in
      omega (arith, linear))
      (λ (off : task.on g t ≡ false).
      let own = cond-false (task.on g t) (bound_of task row g t -ℤ pi_of task row t *ℤ (thermal_unit task.instance g).pmin) (pos 0) off in
      let cost = cond-false (task.on g t) (scale_of task row *ℤ (point_of (task.corners g) 0).cost) (pos 0) off in
      let lengths : at Production g t ≡ pos 0 =
      ap (λ n. sum_below n (λ k. m (limit Production g t k) *ℤ width_at (task.corners g) k)) (cond-false (task.on g t) (segments (task.corners g)) 0 off) in
      let caps = caps_off g t off in
      let output : pi_of task row t *ℤ given_at g t ≡ pos 0 =
      ap (λ b. pi_of task row t *ℤ ((thermal_unit task.instance g).pmin *ℤ bit b)) off ∙ ap (λ z. pi_of task row t *ℤ z) (mul-zero (thermal_unit task.instance g).pmin)
      ∙ mul-zero (pi_of task row t) in
      omega (arith, linear))
      (cases_Bool (task.on g t))

  -- ---- a unit over the periods
  abbrev ramps_at : ℕ → ℕ → ℤ
  ramps_at g t = neg_ℤ (up_of task row g t *ℤ (thermal_unit task.instance g).ru) -ℤ down_of task row g t *ℤ (thermal_unit task.instance g).rd

  abbrev initial_part : ℕ → ℕ → ℤ
  initial_part g t = (down_of task row g t -ℤ up_of task row g t) *ℤ initial_at task g t

  initial_sum : (g : ℕ) → sum_below periods (initial_part g) ≡ (down_of task row g 0 -ℤ up_of task row g 0) *ℤ initial_p (thermal_unit task.instance g)
  initial_sum g = sum_below-single periods (initial_part g) 0 is.periods later
    where
      later : (t : ℕ) → t < periods → t ≢ 0 → initial_part g t ≡ pos 0
      later zero h other = absurd (other refl)
      later (suc t) h other = mul-zero (down_of task row g (suc t) -ℤ up_of task row g (suc t))

  ramps_worth : (g t : ℕ) → ramps_at g t +ℤ initial_part g t ≡ neg_ℤ (at RampUp g t +ℤ at RampDown g t)
  ramps_worth g t =
      let unit = thermal_unit task.instance g in
      let x = initial_at task g t in
      let first = mul-add (up_of task row g t) unit.ru x in
      let second = mul-sub (down_of task row g t) unit.rd x in
      let third = sub-mul (down_of task row g t) (up_of task row g t) x in
      omega (arith, linear)

  period_whole : (g t : ℕ) → (period_part task row g t +ℤ ramps_at g t) +ℤ initial_part g t ≡ (left_cost task row g t -ℤ unit_at g t) -ℤ pi_of task row t *ℤ given_at g t
  period_whole g t =
      let cell = cell_part g t in
      let ramps = ramps_worth g t in
      let stop = stop_worth g t in
      omega (arith, linear)

  unit_whole : (g : ℕ) → sum_below periods (period_part task row g) +ℤ constant_part task row g
      ≡ (sum_below periods (left_cost task row g) -ℤ sum_below periods (unit_at g)) -ℤ sum_below periods (λ t. pi_of task row t *ℤ given_at g t)
  unit_whole g =
      let first = sum_below-add periods (λ t. period_part task row g t +ℤ ramps_at g t) (initial_part g) in
      let second = sum_below-add periods (period_part task row g) (ramps_at g) in
      let start = initial_sum g in
      let each : sum_below periods (λ t. (period_part task row g t +ℤ ramps_at g t) +ℤ initial_part g t)
      ≡ sum_below periods (λ t. (left_cost task row g t -ℤ unit_at g t) -ℤ pi_of task row t *ℤ given_at g t) =
      sum_below-same periods _ _ (λ t h. period_whole g t) in
      let third = sum_below-sub periods (λ t. left_cost task row g t -ℤ unit_at g t) (λ t. pi_of task row t *ℤ given_at g t) in
      let fourth = sum_below-sub periods (left_cost task row g) (unit_at g) in
      omega (arith, linear)

  units_whole : sum_below units (λ g. sum_below periods (period_part task row g) +ℤ constant_part task row g)
      ≡ (left_costs task row -ℤ over units unit_at) -ℤ over units (λ g t. pi_of task row t *ℤ given_at g t)
  units_whole =
      let left = λ (g : ℕ). sum_below periods (left_cost task row g) in
      let own = λ (g : ℕ). sum_below periods (unit_at g) in
      let sold = λ (g : ℕ). sum_below periods (λ t. pi_of task row t *ℤ given_at g t) in
      sum_below-same units _ (λ g. (left g -ℤ own g) -ℤ sold g) (λ g h. unit_whole g)
      ∙ sum_below-sub units (λ g. left g -ℤ own g) sold
      ∙ ap (λ z. z -ℤ sum_below units sold) (sum_below-sub units left own)

  -- ---- the system
  needs_whole : (t : ℕ) → needs_part task row t
      ≡ neg_ℤ (system_at t) +ℤ (pi_of task row t *ℤ sum_below units (λ g. given_at g t) +ℤ pi_of task row t *ℤ sum_below renewables (λ w. low_at task w t))
  needs_whole t =
      let x = m (limit Demand 0 t 0) in
      let first = mul-sub x (demand_at task.instance t) (given_output task t) in
      let second = mul-add x (sum_below units (λ g. given_at g t)) (sum_below renewables (λ w. low_at task w t)) in
      let third = neg-mul x (demand_at task.instance t) in
      let fourth = neg-mul x (sum_below units (λ g. given_at g t)) in
      let fifth = neg-mul x (sum_below renewables (λ w. low_at task w t)) in
      let sixth = mul-neg (mu_of task row t) (reserve_at task.instance t) in
      omega (arith, linear)

  system_whole : sum_below periods (needs_part task row)
      ≡ neg_ℤ (sum_below periods system_at)
      +ℤ (over units (λ g t. pi_of task row t *ℤ given_at g t) +ℤ over renewables (λ w t. pi_of task row t *ℤ low_at task w t))
  system_whole =
      let thermal = λ (t : ℕ). pi_of task row t *ℤ sum_below units (λ g. given_at g t) in
      let low = λ (t : ℕ). pi_of task row t *ℤ sum_below renewables (λ w. low_at task w t) in
      let each : sum_below periods (needs_part task row) ≡ sum_below periods (λ t. neg_ℤ (system_at t) +ℤ (thermal t +ℤ low t)) =
      sum_below-same periods _ _ (λ t h. needs_whole t) in
      let outer = sum_below-add periods (λ t. neg_ℤ (system_at t)) (λ t. thermal t +ℤ low t) in
      let negated = sum_below-neg periods system_at in
      let inner = sum_below-add periods thermal low in
      let first = turned units periods (pi_of task row) given_at in
      let second = turned renewables periods (pi_of task row) (low_at task) in
      omega (arith, linear)

  -- ---- the renewable units
  renewable_whole : sum_below renewables (λ w. sum_below periods (renewable_part task row w))
      ≡ neg_ℤ (over renewables (at RenewableRange)) -ℤ over renewables (λ w t. pi_of task row t *ℤ low_at task w t)
  renewable_whole =
      let sold = λ (w t : ℕ). pi_of task row t *ℤ low_at task w t in
      let each : sum_below renewables (λ w. sum_below periods (renewable_part task row w))
      ≡ sum_below renewables (λ w. sum_below periods (λ t. neg_ℤ (at RenewableRange w t) -ℤ sold w t)) =
      sums-same renewables periods (renewable_part task row) (λ w t. neg_ℤ (at RenewableRange w t) -ℤ sold w t) (λ w t. omega (arith, linear)) in
      let parted = sums-sub renewables periods (λ w t. neg_ℤ (at RenewableRange w t)) sold in
      let negated : sum_below renewables (λ w. sum_below periods (λ t. neg_ℤ (at RenewableRange w t))) ≡ neg_ℤ (over renewables (at RenewableRange)) =
      sum_below-same renewables _ (λ w. neg_ℤ (sum_below periods (at RenewableRange w))) (λ w h. sum_below-neg periods (at RenewableRange w))
      ∙ sum_below-neg renewables (λ w. sum_below periods (at RenewableRange w)) in
      omega (arith, linear)

  -- ---- all
  pub total_whole : total_part task row ≡ left_costs task row -ℤ entry row (place (program task) RightSide)
  total_whole =
      let right = right_parts in
      let a = system_whole in
      let b = units_whole in
      let c = renewable_whole in
      omega (arith, linear)
