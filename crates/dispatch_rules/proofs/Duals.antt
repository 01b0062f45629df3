-- A last row bounds each on cell: its columns of lengths and reserve have no number below 0.
-- Cite by `use Rattle.dispatch_rules.proofs.Duals.{bounds_on}`.
use Rattle.std.proofs.Common.{◌≡◌, ℕ, suc, ◌<◌, nat_lt, false, not, refl, sym, ap, subst, ◌∙◌, arith, List, [], ◌∷◌, ◌++◌, ℤ, pos, ◌+ℤ◌, ◌*ℤ◌, neg_ℤ, ◌≤ℤ◌, IsTrue}
use Rattle.std.specs.Int.{int_min}
use Rattle.std.proofs.lemmas.Bool.{cond-true, cond-false, cond_both}
use Rattle.uc_model.specs.Prelude.{rule_number, Production, StartCap, StopCap, RampUp, RampDown, Demand, Reserve, start_cap, stop_cap, cap, thermal_unit, thermal_count}
use Rattle.uc_model.proofs.Common.{linear, mul-one, mul-neg, mul_assoc, mul_nonneg, mul-zero, zero-mul, add-mul, mul-le-mul_left, int_min_left, int_min_right}
use Rattle.dual_model.specs.Prelude.{IsCellBound}
use Rattle.pivot_run.specs.Prelude.{entry}
use Rattle.dispatch_program.specs.Prelude.{RightSide, place, multiplier, start_rows, IsLastRow}
use Rattle.dispatch_program.proofs.Combined.{unknown_is, right_is, multiplier_nonneg}
use Rattle.dispatch_program.proofs.Starts.{start_is}
use Rattle.dispatch_rules.specs.Cells.{IsPricedCell, segments, width_at, rise_at}
use Rattle.dispatch_rules.specs.Dispatch.{Task, Amount, Length, Held, Shed, Limit, limit, is_demand, parts, copies, rule_from, amount_at, amounts, amounts_in, unit_amounts, listed, cost_of, program, over_limits, right_of}
use Rattle.dispatch_rules.specs.Duals.{IsTask, times_at, cost_times, scale_of, output_price, reserve_price, bound_of, caps_of}
use Rattle.dispatch_rules.proofs.Cells.{bounds_cell}
use Rattle.dispatch_rules.proofs.Listed.{StandsIn, stands_alone, stands_left, stands_right, stands_listed}
use Rattle.dispatch_rules.proofs.Multipliers.{IsListed, AreEqual, priced, amount, rights, unlisted, times_nonneg, same_number}

module _ (task : Task) (row : List ℤ) (is : IsTask task) (last : IsLastRow (program task) row) where
  abbrev m : Limit → ℤ
  m = times_at task row

  -- an amount's number in the row
  pub amount_nonneg : (x : Amount) → StandsIn (Shed 0) x (amounts task)
      → pos 0 ≤ℤ (priced task (multiplier (program task) row) (parts x) +ℤ cost_times task row *ℤ cost_of task x)
  amount_nonneg x stands =
      subst (λ y. pos 0 ≤ℤ (priced task (multiplier (program task) row) (parts y) +ℤ cost_times task row *ℤ cost_of task y)) stands.2
      (subst (λ z. pos 0 ≤ℤ z)
      (unknown_is (program task) (start_rows (program task)) (start_is (program task)) row last.kept stands.0 stands.1
      ∙ ap (λ z. z +ℤ cost_times task row *ℤ cost_of task (amount_at task stands.0))
      (amount task (multiplier (program task) row) (parts (amount_at task stands.0))))
      (last.unknown stands.0 stands.1))

  pub right_sum : entry row (place (program task) RightSide) ≡ over_limits task (λ l. m l *ℤ right_of task l)
  right_sum =
      right_is (program task) (start_rows (program task)) (start_is (program task)) row last.kept
      ∙ rights task (multiplier (program task) row)

  -- a limit's multiplier
  pub m_nonneg : (l : Limit) → is_demand l ≡ false → pos 0 ≤ℤ m l
  m_nonneg l plain =
      times_nonneg task (multiplier (program task) row) l plain
      (λ i h limit. multiplier_nonneg (program task) (start_rows (program task)) (start_is (program task)) row last.kept i limit
      (last.slack i h (ap not limit)))

  -- ---- the amounts that stand in the table
  in_period : (x : Amount) (t : ℕ) → t < task.instance.periods → StandsIn (Shed 0) x (amounts_in task t) → StandsIn (Shed 0) x (amounts task)
  in_period x t h there = stands_listed (Shed 0) x task.instance.periods (amounts_in task) t h there

  in_unit : (x : Amount) (g t : ℕ) → g < thermal_count task.instance → t < task.instance.periods → IsTrue (task.on g t)
      → StandsIn (Shed 0) x (listed (segments (task.corners g)) (λ k. Length g t k ∷ []) ++ (Held g t ∷ [])) → StandsIn (Shed 0) x (amounts task)
  in_unit x g t hg ht on there =
      in_period x t ht (stands_left (Shed 0) x (listed (thermal_count task.instance) (unit_amounts task t)) _
      (stands_listed (Shed 0) x (thermal_count task.instance) (unit_amounts task t) g hg
      (subst (λ xs. StandsIn (Shed 0) x xs) (sym (cond-true (task.on g t) _ _ on)) there)))

  length_stands : (g t k : ℕ) → g < thermal_count task.instance → t < task.instance.periods → IsTrue (task.on g t) → k < segments (task.corners g)
      → StandsIn (Shed 0) (Length g t k) (amounts task)
  length_stands g t k hg ht on hk =
      in_unit (Length g t k) g t hg ht on
      (stands_left (Shed 0) (Length g t k) (listed (segments (task.corners g)) (λ j. Length g t j ∷ [])) _
      (stands_listed (Shed 0) (Length g t k) (segments (task.corners g)) (λ j. Length g t j ∷ []) k hk (stands_alone (Shed 0) (Length g t k))))

  held_stands : (g t : ℕ) → g < thermal_count task.instance → t < task.instance.periods → IsTrue (task.on g t) → StandsIn (Shed 0) (Held g t) (amounts task)
  held_stands g t hg ht on =
      in_unit (Held g t) g t hg ht on
      (stands_right (Shed 0) (Held g t) (listed (segments (task.corners g)) (λ j. Length g t j ∷ [])) (Held g t ∷ []) (stands_alone (Shed 0) (Held g t)))

  -- ---- an on cell
  abbrev both : ℕ → ℕ → ℤ
  both g t = m (limit StartCap g t 0) +ℤ m (limit StopCap g t 0)

  length_nonneg : (g t k : ℕ) → g < thermal_count task.instance → t < task.instance.periods → IsTrue (task.on g t) → k < segments (task.corners g)
      → pos 0 ≤ℤ (cost_times task row *ℤ cost_of task (Length g t k) +ℤ output_price task row g t +ℤ m (limit Production g t k) +ℤ both g t)
  length_nonneg g t k hg ht on hk =
      let whole = amount_nonneg (Length g t k) (length_stands g t k hg ht on hk) in
      omega (arith, linear, whole, mul-one (m (limit Production g t k)), mul-one (m (limit StartCap g t 0)), mul-one (m (limit StopCap g t 0)), mul-one (m (limit RampUp g t 0)), minus_one (m (limit RampUp g (suc t) 0)), minus_one (m (limit RampDown g t 0)), mul-one (m (limit RampDown g (suc t) 0)), mul-one (m (limit Demand 0 t 0)))
    where
      minus_one : (x : ℤ) → x *ℤ neg_ℤ (pos 1) ≡ neg_ℤ x
      minus_one x = mul-neg x (pos 1) ∙ ap neg_ℤ (mul-one x)

  held_nonneg : (g t : ℕ) → g < thermal_count task.instance → t < task.instance.periods → IsTrue (task.on g t)
      → pos 0 ≤ℤ (reserve_price task row g t +ℤ both g t)
  held_nonneg g t hg ht on =
      let whole = amount_nonneg (Held g t) (held_stands g t hg ht on) in
      let free = mul-zero (cost_times task row) in
      omega (arith, linear, whole, mul-one (m (limit StartCap g t 0)), mul-one (m (limit StopCap g t 0)), mul-one (m (limit RampUp g t 0)), minus_one (m (limit Reserve 0 t 0)))
    where
      minus_one : (x : ℤ) → x *ℤ neg_ℤ (pos 1) ≡ neg_ℤ x
      minus_one x = mul-neg x (pos 1) ∙ ap neg_ℤ (mul-one x)

  pub cell_priced : (g t : ℕ) → g < thermal_count task.instance → t < task.instance.periods → IsTrue (task.on g t)
      → IsPricedCell (task.corners g) (scale_of task row) (output_price task row g t) (reserve_price task row g t) (both g t)
      (λ k. cost_times task row *ℤ cost_of task (Length g t k)) (λ k. m (limit Production g t k))
  cell_priced g t hg ht on = record {
    scale = mul_nonneg (cost_times task row) task.scale last.value (let h = is.scale in omega (arith, linear));
    slopes = λ k h.
        mul_assoc (cost_times task row) (cost_of task (Length g t k)) (width_at (task.corners g) k)
        ∙ ap (λ z. cost_times task row *ℤ z) (is.whole g t k hg ht on h)
        ∙ sym (mul_assoc (cost_times task row) task.scale (rise_at (task.corners g) k));
    limits = λ k h. m_nonneg (limit Production g t k) refl;
    caps = let a = m_nonneg (limit StartCap g t 0) refl in let b = m_nonneg (limit StopCap g t 0) refl in omega (arith, linear);
    lengths = λ k h. length_nonneg g t k hg ht on (omega arith);
    reserve = held_nonneg g t hg ht on;
  }

  -- the limit M10 isn't there in the last period
  pub no_stop : (g t : ℕ) → nat_lt (suc t) task.instance.periods ≡ false → m (limit StopCap g t 0) ≡ pos 0
  no_stop g t final = unlisted task (multiplier (program task) row) (limit StopCap g t 0) none
    where
      none : (other : Limit) → IsListed task other → AreEqual other (limit StopCap g t 0) → ⊥
      none other there same =
          let number : there.number ≡ 2 = same_number there.number 2 there.few (omega arith) (sym (ap (λ (l : Limit). rule_number l.rule) there.is) ∙ same.rule) in
          let within = subst (λ n. other.segment < copies task (rule_from n) other.unit other.period) number there.segment in
          let copies_none : copies task StopCap other.unit other.period ≡ 0 = cond-false (nat_lt (suc other.period) task.instance.periods) 1 0 (ap (λ p. nat_lt (suc p) task.instance.periods) same.period ∙ final) in
          omega arith

  -- what the caps are worth
  caps_worth : (g t : ℕ) → (both g t *ℤ cap task.instance.periods (thermal_unit task.instance g) (task.on g) t) ≤ℤ caps_of task row g t
  caps_worth g t =
      let unit = thermal_unit task.instance g in
      cond_both (nat_lt (suc t) task.instance.periods) _ _ (λ c. (both g t *ℤ c) ≤ℤ caps_of task row g t)
      (λ before.
      let least = int_min (start_cap unit (task.on g) t) (stop_cap unit (task.on g) t) in
      let first = mul-le-mul_left (m (limit StartCap g t 0)) least (start_cap unit (task.on g) t) (m_nonneg (limit StartCap g t 0) refl) (int_min_left (start_cap unit (task.on g) t) (stop_cap unit (task.on g) t)) in
      let second = mul-le-mul_left (m (limit StopCap g t 0)) least (stop_cap unit (task.on g) t) (m_nonneg (limit StopCap g t 0) refl) (int_min_right (start_cap unit (task.on g) t) (stop_cap unit (task.on g) t)) in
      let parted = add-mul (m (limit StartCap g t 0)) (m (limit StopCap g t 0)) least in
      omega (arith, linear))
      (λ final.
      let none = no_stop g t final in
      let parted = add-mul (m (limit StartCap g t 0)) (m (limit StopCap g t 0)) (start_cap unit (task.on g) t) in
      let first : m (limit StopCap g t 0) *ℤ start_cap unit (task.on g) t ≡ pos 0 = ap (λ z. z *ℤ start_cap unit (task.on g) t) none ∙ zero-mul (start_cap unit (task.on g) t) in
      let second : m (limit StopCap g t 0) *ℤ stop_cap unit (task.on g) t ≡ pos 0 = ap (λ z. z *ℤ stop_cap unit (task.on g) t) none ∙ zero-mul (stop_cap unit (task.on g) t) in
      omega (arith, linear))

  -- the row bounds each on cell
  pub bounds_on : (g t : ℕ) → g < thermal_count task.instance → t < task.instance.periods → IsTrue (task.on g t)
      → IsCellBound (thermal_unit task.instance g).points (scale_of task row) (output_price task row g t) (reserve_price task row g t)
      (cap task.instance.periods (thermal_unit task.instance g) (task.on g) t) (bound_of task row g t)
  bounds_on g t hg ht on =
      bounds_cell (thermal_unit task.instance g).points (task.corners g) (scale_of task row) (output_price task row g t) (reserve_price task row g t)
      (both g t) (λ k. cost_times task row *ℤ cost_of task (Length g t k)) (λ k. m (limit Production g t k)) (is.hulls g hg) (cell_priced g t hg ht on)
      (cap task.instance.periods (thermal_unit task.instance g) (task.on g) t) (caps_of task row g t) (caps_worth g t)
