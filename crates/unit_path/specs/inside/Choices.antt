-- Where a run of on hours, or a rest, ends on the least way. Source: Bellman's principle of optimality (Dynamic
-- Programming, 1957), over the graph whose arcs are the intervals in which the unit is on, and those in which it is off.
use Rattle.std.specs.Prelude.{◌≡◌, ℕ, ◌-◌, true, false, ℤ, ◌+ℤ◌, Option, Some, None, IfSome}
pub use Rattle.uc_model.specs.declared.instance.Thermal.{Thermal}
pub use Rattle.uc_model.specs.declared.terms.Terms.{Terms}
use Rattle.uc_model.specs.Prelude.{period_count}
pub use Rattle.dual_model.specs.declared.node.Fix.{Fix}
use Rattle.dual_model.specs.Prelude.{move, cost_to_go, end_cost, lasting, switch_total, IsAttained, IsWithin, MAX_COST_TO_GO}
pub use Rattle.dual_model.specs.declared.choices.Choice.{Choice}
pub use Rattle.dual_model.specs.Prelude.{choice_cost, ends_at, IsOneOf}

-- the choice with a cost before it
abbrev pub longer_of : ℤ → Option Choice → Option Choice
longer_of cost None = None
longer_of cost (Some choice) = Some (record { cost = cost +ℤ choice.cost; at = choice.at })

-- ---- runs
-- what it costs to stay on, since `since`, in the n periods from t on: the hours before these
abbrev pub stays : Terms → Thermal → Fix → ℕ → ℕ → ℕ → Option ℤ
stays terms unit fix since t n = lasting (move terms unit fix) true since t n

-- what a stop in period t costs with all that follows; at the end of the horizon the last hour alone
abbrev pub stop_cost : Terms → Thermal → Fix → ℕ → ℕ → Option ℤ
stop_cost terms unit fix since t = switch_total (move terms unit fix) (end_cost terms unit) (period_count terms) t true since

-- a chosen stop of a unit that is on since `since`, before period t, attains the choice's cost
abbrev pub IsStop : Terms → Thermal → Fix → ℕ → ℕ → Choice → Type 0
IsStop terms unit fix since t choice = IsAttained (move terms unit fix) (end_cost terms unit) (period_count terms) t true since choice

-- and none costs less
pub record IsLeastStop (terms : Terms) (unit : Thermal) (fix : Fix) (since t : ℕ) (choice : Option Choice) : Type 0 where
  pub cost : choice_cost choice ≡ cost_to_go terms unit fix (period_count terms - t) t true since
  pub size : IsWithin MAX_COST_TO_GO (choice_cost choice)
  pub stop : IfSome choice (IsStop terms unit fix since t)

-- the stop in period t itself, or that there is none
pub record IsStopAtOnce (terms : Terms) (unit : Thermal) (fix : Fix) (since t : ℕ) (choice : Option Choice) : Type 0 where
  pub cost : choice_cost choice ≡ stop_cost terms unit fix since t
  pub at : IfSome choice (λ choice. choice.at ≡ Some t)

-- ---- rests
-- the unit may be off in the n periods from t on
abbrev pub rests : Terms → Thermal → Fix → ℕ → ℕ → ℕ → Option ℤ
rests terms unit fix since t n = lasting (move terms unit fix) false since t n

-- what a start in period t costs with all that follows; at the end of the horizon there is nothing to pay
abbrev pub start_total : Terms → Thermal → Fix → ℕ → ℕ → Option ℤ
start_total terms unit fix since t = switch_total (move terms unit fix) (end_cost terms unit) (period_count terms) t false since

-- a chosen start of a unit that is off since `since`, before period t, attains the choice's cost
abbrev pub IsStart : Terms → Thermal → Fix → ℕ → ℕ → Choice → Type 0
IsStart terms unit fix since t choice = IsAttained (move terms unit fix) (end_cost terms unit) (period_count terms) t false since choice

-- and none costs less
pub record IsLeastStart (terms : Terms) (unit : Thermal) (fix : Fix) (since t : ℕ) (choice : Option Choice) : Type 0 where
  pub cost : choice_cost choice ≡ cost_to_go terms unit fix (period_count terms - t) t false since
  pub size : IsWithin MAX_COST_TO_GO (choice_cost choice)
  pub start : IfSome choice (IsStart terms unit fix since t)

-- ---- switches
-- a chosen first switch of the initial state
abbrev pub IsFirst : Terms → Thermal → Fix → Choice → Type 0
IsFirst terms unit fix choice = IsAttained (move terms unit fix) (end_cost terms unit) (period_count terms) 0 unit.on0 0 choice
