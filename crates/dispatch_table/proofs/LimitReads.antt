-- The limits of a task, by the list that stands for them.
-- Cite by `use Rattle.dispatch_table.proofs.LimitReads.{read_limit}`.
use Rattle.std.proofs.Common.{◌≡◌, ℕ, ◌<◌, sym, ap, subst, ◌∙◌, List, map, length, get_or}
use Rattle.std.proofs.lemmas.List.{get_or-map, length-map}
use Rattle.uc_model.specs.Prelude.{Rule, Demand, rule_units}
use Rattle.dispatch_rules.specs.declared.limit.LimitAt.{LimitAt}
use Rattle.dispatch_rules.specs.Prelude.{limit_of, Task, Limit, limit, copies, limits, limit_at, rule_from}
use Rattle.dispatch_rules.proofs.Multipliers.{limit_at-listed}
use Rattle.dispatch_table.specs.Tasks.{IsLimitIn}

-- each is at a unit, a period and a segment that its rule has
pub limit_in : (task : Task) (i : ℕ) → i < length (limits task) → IsLimitIn task (limit_at task i)
limit_in task i h =
    let l = limit_at task i in
    let is = limit_at-listed task i h in
    let rule : rule_from is.number ≡ l.rule = ap (λ (m : Limit). m.rule) (sym is.is) in
    record {
      unit = subst (λ (r : Rule). l.unit < rule_units r task.instance) rule is.unit;
      period = is.period;
      segment = subst (λ (r : Rule). l.segment < copies task r l.unit l.period) rule is.segment;
    }

pub read_limit : (task : Task) (xs : List LimitAt) (i : ℕ) (d : LimitAt) → map limit_of xs ≡ limits task → i < length xs → IsLimitIn task (limit_of (get_or xs i d))
read_limit task xs i d are h =
    subst (IsLimitIn task)
    (ap (λ ls. get_or ls i (limit Demand 0 0 0)) (sym are) ∙ get_or-map limit_of xs i d (limit Demand 0 0 0) h)
    (limit_in task i (subst (λ n. i < n) (sym (length-map xs limit_of) ∙ ap length are) h))
