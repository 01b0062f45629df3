-- A rule on commitments says the same of a unit's row as of the unit's pattern, where the row is on in the same periods.
-- Rules go by their turn: M1 to M5, and M7. Cite by `use Rattle.dispatch_repair.proofs.RowRules.{turn_rule}`.
use Rattle.std.proofs.Common.{◌≡◌, ℕ, zero, suc, ◌-◌, ◌<◌, Bool, true, false, not, ◌&&◌, ◌||◌, sym, ap, subst, ◌∙◌, arith, List, length, IsTrue, nat_lt, min, ◌==◌, if◌then◌else◌}
use Rattle.uc_model.specs.Prelude.{starts, stops, thermal_unit, holds_at, rule_number}
use Rattle.uc_model.specs.declared.schedule.Cell.{Cell}
use Rattle.dual_model.proofs.Locality.{SameBelow, starts-same, stops-same, keeps_minimum-same, initial_stop-same}
use Rattle.schedule_check.specs.CommitmentRules.{RowKeeps}
use Rattle.schedule_check.specs.WholeWatts.{commitment, rule_of, unit_holds, unit_periods}
use Rattle.schedule_check.proofs.CommitmentOrder.{turn}
use Rattle.dispatch_repair.specs.Prelude.{Instance, Pattern, Thermal, commitment_at, KeepsRule}
use Rattle.dispatch_repair.specs.Stuck.{committed}

-- what the row keeps holds in each period; M7 says the same of each
holds_in : (k : ℕ) → k < 6 → (unit : Thermal) (row : List Cell) → RowKeeps unit row (turn k) → (t : ℕ) → t < length row
    → IsTrue (unit_holds (turn k) (length row) unit row t)
holds_in (suc (suc (suc (suc (suc zero))))) h unit row keeps t ht = keeps 0 (omega arith)
holds_in (suc (suc (suc (suc (suc (suc k)))))) h unit row keeps t ht = absurd (omega arith)
holds_in _ h unit row keeps t ht = keeps t ht

-- one of one period, or of all, is one of all
one_or_all : (b : Bool) (n t : ℕ) → 0 < n → t < (if b then 1 else n) → t < n
one_or_all true n t some h = omega arith
one_or_all false n t some h = h

module _ (instance : Instance) (patterns : List Pattern) (g : ℕ) (row : List Cell) (some : 0 < instance.periods)
    (same : SameBelow instance.periods (commitment row) (commitment_at patterns g)) where
  pub turn_rule : (k : ℕ) → k < 6 → (t : ℕ) → t < instance.periods
      → unit_holds (turn k) instance.periods (thermal_unit instance g) row t ≡ holds_at (rule_of (turn k)) instance 1 (committed patterns) g t
  turn_rule zero h t ht = ap (λ b. not (thermal_unit instance g).must_run || b) (same.same t ht)
  turn_rule (suc zero) h t ht =
      let unit = thermal_unit instance g in
      ap (λ b. not (unit.on0 && nat_lt t (unit.ut - unit.ut0)) || b) (same.same t ht)
  turn_rule (suc (suc zero)) h t ht =
      let unit = thermal_unit instance g in
      ap (λ b. not (not unit.on0 && nat_lt t (unit.dt - unit.dt0)) || not b) (same.same t ht)
  turn_rule (suc (suc (suc zero))) h t ht =
      let unit = thermal_unit instance g in
      keeps_minimum-same instance.periods (min unit.ut instance.periods) (starts unit (commitment row)) (starts unit (commitment_at patterns g))
      (commitment row) (commitment_at patterns g)
      (record { same = starts-same instance.periods unit (commitment row) (commitment_at patterns g) same }) same t ht
  turn_rule (suc (suc (suc (suc zero)))) h t ht =
      let unit = thermal_unit instance g in
      keeps_minimum-same instance.periods (min unit.dt instance.periods) (stops unit (commitment row)) (stops unit (commitment_at patterns g))
      (λ k. not (commitment row k)) (λ k. not (commitment_at patterns g k))
      (record { same = stops-same instance.periods unit (commitment row) (commitment_at patterns g) same })
      (record { same = λ k hk. ap not (same.same k hk) }) t ht
  turn_rule (suc (suc (suc (suc (suc zero))))) h t ht =
      initial_stop-same instance.periods (thermal_unit instance g) (commitment row) (commitment_at patterns g) same some
  turn_rule (suc (suc (suc (suc (suc (suc k)))))) h t ht = absurd (omega arith)

  -- the pattern keeps the rule where the row does, and the other way round
  pub turn_kept : length row ≡ instance.periods → (k : ℕ) → k < 6 → RowKeeps (thermal_unit instance g) row (turn k)
      → KeepsRule instance patterns (rule_of (turn k)) g
  turn_kept width k h keeps t ht =
      sym (turn_rule k h t ht)
      ∙ ap (λ n. unit_holds (turn k) n (thermal_unit instance g) row t) (sym width)
      ∙ holds_in k h (thermal_unit instance g) row keeps t (subst (λ n. t < n) (sym width) ht)

  pub turn_keeps : length row ≡ instance.periods → (k : ℕ) → k < 6 → KeepsRule instance patterns (rule_of (turn k)) g
      → RowKeeps (thermal_unit instance g) row (turn k)
  turn_keeps width k h keeps t ht =
      let inside : t < instance.periods =
      one_or_all (rule_number (rule_of (turn k)) == 7) instance.periods t some (subst (λ n. t < unit_periods (turn k) n) width ht) in
      ap (λ n. unit_holds (turn k) n (thermal_unit instance g) row t) width ∙ turn_rule k h t inside ∙ keeps t inside
