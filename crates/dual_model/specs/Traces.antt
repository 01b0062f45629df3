-- Ways that choices lead from switch to switch. Source: Bellman's principle of optimality (Dynamic Programming, 1957), over the
-- graph whose arcs are the intervals in which a unit is on, and those in which it is off.
--
-- Periods count from 0 here. A state is as in Bellman's recursion.
use Rattle.std.specs.Prelude.{◌≡◌, ℕ, zero, suc, ◌+◌, ◌-◌, ◌<◌, ◌≤◌, Bool, false, not, ◌==◌, ℤ, pos, Option, Some, IfSome, if◌then◌else◌}
use Rattle.uc_model.specs.Prelude.{commitment_of}
use Rattle.dual_model.specs.Bellman.{EndCosts, MoveCosts, least_cost, total_of}
use Rattle.dual_model.specs.Choices.{Choice, choice_cost, ends_at, next_after}
pub use Rattle.dual_model.specs.declared.traces.Trace.{Trace}

-- what it costs that a state lasts in the n periods from t on
abbrev pub lasting : MoveCosts → Bool → ℕ → ℕ → ℕ → Option ℤ
lasting move was since t zero = Some (pos 0)
lasting move was since t (suc n) = total_of (lasting move was since t n) (move (t + n) was since was)

-- what a switch in period t costs with all that follows; at the end of the horizon what is left to pay
abbrev pub switch_total : MoveCosts → EndCosts → ℕ → ℕ → Bool → ℕ → Option ℤ
switch_total move end periods t was since =
    if t == periods then end t was since
    else total_of (move t was since (not was)) (least_cost move end (periods - suc t) (suc t) (not was) (suc t))

-- a choice for a state before period t attains its cost
pub record IsAttained (move : MoveCosts) (end : EndCosts) (periods t : ℕ) (was : Bool) (since : ℕ) (choice : Choice) : Type 0 where
  pub later : t ≤ ends_at choice periods
  pub within : ends_at choice periods ≤ periods
  pub attained :
      total_of (lasting move was since t (ends_at choice periods - t)) (switch_total move end periods (ends_at choice periods) was since)
      ≡ Some choice.cost

-- the choices of a table: by the period of a switch, and whether the unit is on from it
abbrev pub Choices : Type 0
Choices = ℕ → Bool → Option Choice

-- a choice behind a switch in period t costs the least, and attains it
pub record IsLeastBehind (move : MoveCosts) (end : EndCosts) (periods t : ℕ) (on : Bool) (choice : Option Choice) : Type 0 where
  pub cost : choice_cost choice ≡ least_cost move end (periods - suc t) (suc t) on (suc t)
  pub attained : IfSome choice (IsAttained move end periods (suc t) on (suc t))

-- so does each behind a switch that may be
abbrev pub AreLeast : MoveCosts → EndCosts → ℕ → Choices → Type 0
AreLeast move end periods choices =
    (t : ℕ) (was : Bool) (since : ℕ) (v : ℤ) → t < periods → move t was since (not was) ≡ Some v → IsLeastBehind move end periods t (not was) (choices t (not was))

-- ---- the way
-- whether the unit is on, and before which period that ends
pub record Stretch : Type 0 where
  pub on : Bool
  pub until : ℕ

abbrev pub stretch_behind : Choices → ℕ → ℕ → Stretch → Stretch
stretch_behind choices end t now =
    if t == now.until then record { on = not now.on; until = next_after (choices t (not now.on)) end } else now

-- before period t
abbrev pub stretch : Choices → ℕ → Bool → Choice → ℕ → Stretch
stretch choices end on first zero = record { on = on; until = ends_at first end }
stretch choices end on first (suc t) = stretch_behind choices end t (stretch choices end on first t)

-- a trace has the way before period t, and nothing behind it
pub record IsTraced (choices : Choices) (on : Bool) (first : Choice) (t : ℕ) (trace : Trace) : Type 0 where
  pub now : record { on = trace.on; until = trace.until } ≡ stretch choices trace.end on first t
  pub before : (k : ℕ) → k < t → commitment_of trace.pattern k ≡ (stretch choices trace.end on first (suc k)).on
  pub after : (k : ℕ) → t ≤ k → commitment_of trace.pattern k ≡ false
