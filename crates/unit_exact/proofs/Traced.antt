-- The way that the table's choices lead: each is the least behind a switch that may be.
use Rattle.std.proofs.Common.{◌≡◌, ℕ, zero, suc, ◌+◌, ◌-◌, ◌<◌, ◌≤◌, Bool, true, false, ◌&&◌, refl, ap, ◌∙◌, arith, pos, IsTrue, Option, Some, None, List}
use Rattle.std.proofs.lemmas.Bool.{cond-true}
use Rattle.uc_model.specs.Prelude.{commitment_of}
use Rattle.dual_model.specs.Prelude.{AreLeast, IsAttained, IsLeastBehind, IsTraced, MoveCosts, allowed, ends_at, holds_initially, lasting, may_be_off, may_be_on, stretch, total_of}
use Rattle.dual_model.specs.declared.traces.Trace.{Trace}
use Rattle.dual_model.proofs.Costs.{total-zero}
use Rattle.dual_model.proofs.Following.{followed, may-enter_off, may-enter_on}
use Rattle.unit_runs.specs.RunsToGo.{Fix, last_cost, may_stay, run_and_start, whole_way}
use Rattle.unit_exact.specs.inside.Choices.{Choice}
use Rattle.unit_exact.specs.inside.Problems.{Table, Thermal}
use Rattle.unit_exact.specs.inside.Switches.{IsLeastSwitch, IsPlan, IsTableFrom, Switches, choices_in, switch_total}
use Rattle.unit_exact.proofs.Sizes.{some-map}

module _ (periods : ℕ) (table : Table) (unit : Thermal) (fix : Fix) where
  abbrev move : MoveCosts
  move = allowed unit fix (run_and_start periods table unit)

  abbrev IsAttainedFrom : ℕ → Bool → ℕ → Choice → Type 0
  IsAttainedFrom t was since choice = IsAttained move (last_cost periods table unit) periods t was since choice

  -- a state lasts for nothing where it may
  stay-free : (was : Bool) (since t : ℕ) → IsTrue (may_stay unit fix t was) → move t was since was ≡ Some (pos 0)
  stay-free true since t may = cond-true (may_be_on fix t && holds_initially unit t false) _ None may
  stay-free false since t may = cond-true (may_be_off unit fix t) _ None may

  lasting-free : (was : Bool) (since t n : ℕ) → ((k : ℕ) → t ≤ k → k < t + n → IsTrue (may_stay unit fix k was)) → lasting move was since t n ≡ Some (pos 0)
  lasting-free was since t zero may = refl
  lasting-free was since t (suc n) may =
      λ i. total_of (lasting-free was since t n (λ k a b. may k a (omega (arith, b))) i) (stay-free was since (t + n) (may (t + n) (omega arith) (omega arith)) i)

  attained : (t : ℕ) (was : Bool) (since : ℕ) (choice : Choice) → IsPlan periods table unit fix t was since choice → IsAttainedFrom t was since choice
  attained t was since choice plan =
      let to = ends_at choice periods in
      let low = plan.later in
      record {
        later = low;
        within = plan.within;
        attained =
            ap (λ o. total_of o (switch_total periods table unit fix to was since)) (lasting-free was since t (to - t) (λ k a b. plan.stays k a (omega (arith, low, b))))
            ∙ total-zero (switch_total periods table unit fix to was since)
            ∙ plan.attained;
      }

  behind : (t : ℕ) (on : Bool) (choice : Option Choice) → IsLeastSwitch periods table unit fix (suc t) on (suc t) choice
      → IsLeastBehind move (last_cost periods table unit) periods t on choice
  behind t on choice least = record {
    cost = least.cost;
    attained = some-map _ (IsAttainedFrom (suc t) on (suc t)) choice (attained (suc t) on (suc t)) least.plan;
  }

  least : (entries : List Switches) → IsTableFrom periods table unit fix 0 entries → AreLeast move (last_cost periods table unit) periods (choices_in entries)
  least entries is t true since v short may =
      behind t false (choices_in entries t false)
      ((is.entry t (omega arith) short).stop (may-enter_off unit fix (run_and_start periods table unit) t since v may))
  least entries is t false since v short may =
      behind t true (choices_in entries t true)
      ((is.entry t (omega arith) short).start (may-enter_on unit fix (run_and_start periods table unit) t since v may))

  pub way-traced : (entries : List Switches) (first : Choice) (t : ℕ) (trace : Trace) → t ≡ periods → trace.end ≡ periods
      → IsTableFrom periods table unit fix 0 entries → IsPlan periods table unit fix 0 unit.on0 0 first → IsTraced (choices_in entries) unit.on0 first t trace
      → whole_way periods table unit fix (commitment_of trace.pattern) ≡ Some first.cost
  way-traced entries first t trace last end is plan traced =
      followed move (last_cost periods table unit) periods (choices_in entries) (least entries is) unit.on0 first (commitment_of trace.pattern)
      (λ k short. traced.before k (omega arith) ∙ ap (λ n. (stretch (choices_in entries) n unit.on0 first (suc k)).on) end)
      (attained 0 unit.on0 0 first plan)
