-- What the path knows of each period: the least ways from a switch in it on. Source: Bellman's principle of optimality
-- (Dynamic Programming, 1957), over the graph of A. Frangioni and C. Gentile, "Solving Nonlinear Single-Unit Commitment
-- Problems with Ramping Constraints" (Operations Research 54, 2006).
use Rattle.std.specs.Prelude.{◌≡◌, ℕ, suc, ◌-◌, ◌*◌, ◌<◌, ◌≤◌, Bool, true, false, List, ℤ, length, slice_index_or, unsigned_abs, IsTrue, Option, Some, None, IfSome}
use Rattle.dual_model.specs.Prelude.{Choices, allowed, ends_at, may_be_off, may_be_on, switch_total as total_by_costs, lesser_of}
use Rattle.unit_runs.specs.RunsToGo.{Fix, last_cost, may_stay, run_and_start, runs_to_go}
use Rattle.unit_exact.specs.inside.Choices.{Choice, choice_cost}
use Rattle.unit_exact.specs.inside.Problems.{Table, Thermal, MAX_SWITCH}
pub use Rattle.unit_exact.specs.declared.choices.Switches.{Switches}

-- what a switch in period t costs with all that follows; at the end of the horizon what is left to pay
abbrev pub switch_total : ℕ → Table → Thermal → Fix → ℕ → Bool → ℕ → Option ℤ
switch_total periods table unit fix t was since =
    total_by_costs (allowed unit fix (run_and_start periods table unit)) (last_cost periods table unit) periods t was since

-- a chosen end of a state, before period t: the state may last until then, and the switch there has the choice's cost
pub record IsPlan (periods : ℕ) (table : Table) (unit : Thermal) (fix : Fix) (t : ℕ) (was : Bool) (since : ℕ) (choice : Choice) : Type 0 where
  pub later : t ≤ ends_at choice periods
  pub within : ends_at choice periods ≤ periods
  pub stays : (k : ℕ) → t ≤ k → k < ends_at choice periods → IsTrue (may_stay unit fix k was)
  pub attained : switch_total periods table unit fix (ends_at choice periods) was since ≡ Some choice.cost

-- a cost with n periods left
abbrev pub IsWithinSwitches : ℕ → ℤ → Type 0
IsWithinSwitches n cost = unsigned_abs cost ≤ MAX_SWITCH * suc n

-- the least such choice, or that there is none
pub record IsLeastSwitch (periods : ℕ) (table : Table) (unit : Thermal) (fix : Fix) (t : ℕ) (was : Bool) (since : ℕ) (choice : Option Choice) : Type 0 where
  pub cost : choice_cost choice ≡ runs_to_go periods table unit fix (periods - t) t was since
  pub plan : IfSome choice (IsPlan periods table unit fix t was since)
  pub size : IfSome choice (λ c. IsWithinSwitches (periods - t) c.cost)

-- the best switch before period t of a state before period `first`, with the ways that go on from t: they make up the least way
pub record IsBestTo (periods : ℕ) (table : Table) (unit : Thermal) (fix : Fix) (first : ℕ) (was : Bool) (since t : ℕ) (best : Option Choice) : Type 0 where
  pub cost : lesser_of (choice_cost best) (runs_to_go periods table unit fix (periods - t) t was since)
      ≡ runs_to_go periods table unit fix (periods - first) first was since
  pub later : first ≤ t
  pub stays : (k : ℕ) → first ≤ k → k < t → IsTrue (may_stay unit fix k was)
  pub plan : IfSome best (IsPlan periods table unit fix first was since)
  pub size : IfSome best (λ choice. IsWithinSwitches (periods - first) choice.cost)

-- an entry of the table is that of period t: the least ways from a start and from a stop in it, where these may be
pub record AreSwitches (periods : ℕ) (table : Table) (unit : Thermal) (fix : Fix) (t : ℕ) (entry : Switches) : Type 0 where
  pub start : may_be_on fix t ≡ true → IsLeastSwitch periods table unit fix (suc t) true (suc t) entry.start
  pub stop : may_be_off unit fix t ≡ true → IsLeastSwitch periods table unit fix (suc t) false (suc t) entry.stop

abbrev pub entry_in : List Switches → ℕ → Switches
entry_in entries t = slice_index_or entries t (record { start = None; stop = None })

-- the table is right from period `from` on
pub record IsTableFrom (periods : ℕ) (table : Table) (unit : Thermal) (fix : Fix) (from : ℕ) (entries : List Switches) : Type 0 where
  pub count : length entries ≡ periods
  pub entry : (t : ℕ) → from ≤ t → t < periods → AreSwitches periods table unit fix t (entry_in entries t)

-- its choices
abbrev pub choices_in : List Switches → Choices
choices_in entries t true = (entry_in entries t).start
choices_in entries t false = (entry_in entries t).stop
