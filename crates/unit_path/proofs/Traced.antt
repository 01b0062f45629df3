-- The way that the table's choices lead: each is the least behind a switch that may be.
use Rattle.std.proofs.Common.{◌≡◌, ℕ, suc, true, false, ap, ◌∙◌, arith, List}
use Rattle.uc_model.specs.Prelude.{commitment_of, period_count}
use Rattle.dual_model.specs.Prelude.{AreLeast, IsTraced, end_cost, hour_and_start, move, stretch}
use Rattle.dual_model.specs.declared.traces.Trace.{Trace}
use Rattle.dual_model.proofs.Following.{followed, may-enter_off, may-enter_on}
use Rattle.unit_path.specs.inside.Choices.{Fix, Terms, Thermal, Choice, IsFirst}
use Rattle.unit_path.specs.inside.Hours.{Hour, IsTableFrom, choices_in}
use Rattle.unit_path.specs.inside.Ways.{IsWay}

least : (terms : Terms) (unit : Thermal) (fix : Fix) (hours : List Hour) → IsTableFrom terms unit fix 0 hours
    → AreLeast (move terms unit fix) (end_cost terms unit) (period_count terms) (choices_in hours)
least terms unit fix hours is t true since v short moves =
    let least = (is.hour t (omega arith) short).stop.least (may-enter_off unit fix (hour_and_start terms unit) t since v moves) in
    record { cost = least.cost; attained = least.start }
least terms unit fix hours is t false since v short moves =
    let least = (is.hour t (omega arith) short).start.least (may-enter_on unit fix (hour_and_start terms unit) t since v moves) in
    record { cost = least.cost; attained = least.stop }

pub way-traced : (terms : Terms) (unit : Thermal) (fix : Fix) (hours : List Hour) (first : Choice) (t : ℕ) (trace : Trace) → t ≡ period_count terms
    → trace.end ≡ period_count terms → IsTableFrom terms unit fix 0 hours → IsFirst terms unit fix first → IsTraced (choices_in hours) unit.on0 first t trace
    → IsWay terms unit fix first.cost trace.pattern
way-traced terms unit fix hours first t trace last end is plan traced = record {
  attained =
      followed (move terms unit fix) (end_cost terms unit) (period_count terms) (choices_in hours) (least terms unit fix hours is) unit.on0 first
      (commitment_of trace.pattern) (λ k short. traced.before k (omega arith) ∙ ap (λ n. (stretch (choices_in hours) n unit.on0 first (suc k)).on) end) plan;
  after = λ k low. traced.after k (omega arith);
}
