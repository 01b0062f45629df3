-- Each amount is the task's.
use Rattle.std.proofs.Common.{◌≡◌, ◌^◌, ◌<◌, arith, sym, subst, ap, ◌∙◌, unsigned_abs, below_more}
use Rattle.pivot_run.specs.Prelude.{IsNarrow}
use Rattle.dispatch_rules.specs.declared.amount.Amount.{Amount}
use Rattle.dispatch_rules.specs.Prelude.{amount_at}
use Rattle.dispatch_table.specs.Tasks.{AmountForms, scaled_cost, task_of}
use Rattle.dispatch_table.proofs.Pushed.{bits_are, set_more}
use Rattle.dispatch_table.proofs.Scales.{read_in, read_amount}
use Rattle.dispatch_table.proofs.scale.fill_costs.Goals as goal

pub cost-requires-clause-amount : goal.cost-requires-clause-amount
cost-requires-clause-amount c = read_in (task_of c.args.given.now) c.args.amounts.now c.loop-c.c _ c.requires.amounts c.loop-c-test.true

pub loop-c-preserved : goal.loop-c-preserved
loop-c-preserved c =
    let task = task_of c.args.given.now in
    let s = c.args.scale.now in
    let made = c.in_ok-costs.ensures in
    let own = read_amount (task_of c.args.given.now) c.args.amounts.now c.loop-c.c _ c.requires.amounts c.loop-c-test.true in
    let bits = bits_are c.in_ok-costs.field-0 made.small in
    record {
      value = set_more (λ k z. z ≡ scaled_cost task s (amount_at task k)) c.loop-c.costs c.loop-c.c _ (omega arith) c.loop-c.invariant.value
          (bits ∙ made.value ∙ ap (scaled_cost task s) own);
      small = set_more (λ k z. unsigned_abs z < 2 ^ 126) c.loop-c.costs c.loop-c.c _ (omega arith) c.loop-c.invariant.small
          (subst (λ z. unsigned_abs z < 2 ^ 126) (sym bits) made.small);
      narrow = below_more _ _ c.loop-c.invariant.narrow (subst (λ (a : Amount). IsNarrow (AmountForms task s a)) own made.narrow);
    }
