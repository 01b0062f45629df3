-- The scale.
use Rattle.std.proofs.Common.{◌≡◌, ◌+◌, ◌-◌, ◌*◌, ◌^◌, ◌<◌, ◌≤◌, arith, sym, subst, ◌∙◌, ℤ, ◌*ℤ◌, unsigned_abs}
use Rattle.std.proofs.lemmas.Result.{IfOk-weaker, IfErr-weaker, on_ok_weaker}
use Rattle.dispatch_rules.specs.Prelude.{Task, cost_times}
use Rattle.pivot_dispatch.specs.Answers.{cost_row}
use Rattle.pivot_dispatch.specs.inside.Endings.{IsEndedBy}
use Rattle.pivot_dispatch.proofs.Ended.{columns_are, rows_are, times_are}
use Rattle.pivot_dispatch.proofs.ending.Ending.scale.Goals as goal

pub overflow_sub-columns : goal.overflow_sub-columns
overflow_sub-columns c = let columns = columns_are c.args.self.now c.requires.ended.0 c.requires.ended.1 in omega arith

pub number-times-requires-clause-row : goal.number-times-requires-clause-row
number-times-requires-clause-row c = let rows = rows_are c.args.self.now c.requires.ended.0 c.requires.ended.1 in omega arith

pub number-times-requires-clause-column : goal.number-times-requires-clause-column
number-times-requires-clause-column c = let columns = columns_are c.args.self.now c.requires.ended.0 c.requires.ended.1 in omega arith

times : (c : goal.After-product) (task : Task) → IsEndedBy c.args.self.now task → c.number-times.result.now ≡ cost_times task (cost_row task c.args.self.now.last.now.table)
times c task ended =
    let columns = columns_are c.args.self.now task ended in
    c.number-times.ensures ∙ times_are c.args.self.now task ended (c.len.result + 1) (c.columns.result - 2) (omega arith) (omega arith)

first : (c : goal.After-product) (task : Task) → IsEndedBy c.args.self.now task → (a : ℤ) → a ≡ cost_times task (cost_row task c.args.self.now.last.now.table)
    → c.number-times.result.now ≡ a
first c task ended a same = times c task ended ∙ sym same

pub returns-clause-value : goal.returns-clause-value
returns-clause-value c = IfOk-weaker c.product.result _ _
    (λ k is task ended. is ∙ (λ i. times c task ended i *ℤ ended.scale i))
    c.product.ensures.value

pub returns-clause-narrow : goal.returns-clause-narrow
returns-clause-narrow c = on_ok_weaker c.product.result
    (λ small task ended a b forms.
    subst (λ n. n < 2 ^ 126) (λ i. unsigned_abs (first c task ended a forms.0 i) * unsigned_abs ((ended.scale ∙ sym forms.1) i)) small)
    c.product.ensures.narrow

pub returns-clause-wide : goal.returns-clause-wide
returns-clause-wide c = IfErr-weaker c.product.result _ _
    (λ wide is task ended. ((is.0 ∙ times c task ended, is.1 ∙ ended.scale), subst (λ n. 2 ^ 126 ≤ n) (λ i. unsigned_abs (sym is.0 i) * unsigned_abs (sym is.1 i)) is.2))
    c.product.ensures.wide
