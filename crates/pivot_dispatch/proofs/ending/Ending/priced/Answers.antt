-- The prices.
use Rattle.std.proofs.Common.{SFits, ◌≡◌, ◌+◌, ◌<◌, ◌≤◌, length, arith, subst, sym, ap, ◌∙◌, List, ℤ, pos, ◌≤ℤ◌, unsigned_abs, IsTrue}
use Rattle.std.specs.Int.{w64, w128}
use Rattle.std.proofs.lemmas.Int.{to_z-of_z}
use Rattle.std.proofs.lemmas.Result.{IfOk-weaker}
use Rattle.uc_model.proofs.Common.{linear}
use Rattle.pivot_run.specs.Prelude.{row_at, IsNarrow}
use Rattle.dispatch_program.specs.Prelude.{multiplier}
use Rattle.dispatch_rules.specs.Prelude.{limit_of, program}
use Rattle.dispatch_prices.proofs.TimesBy.{limit_is}
use Rattle.dispatch_prices.specs.ReadOff.{ReadingForms, is_priced, limit_in}
use Rattle.dispatch_prices.specs.Readings.{IsPriceTable, IsUnfit}
use Rattle.pivot_dispatch.specs.Answers.{IsAnswer, cost_row}
use Rattle.pivot_dispatch.specs.inside.Endings.{Tells}
use Rattle.pivot_dispatch.proofs.Answering.{unpriced_cost}
use Rattle.pivot_dispatch.proofs.Ended.{cheapest_here, end_is, rows_are, rules_are, table_reached}
use Rattle.pivot_dispatch.proofs.Tables.{cost_positive}
use Rattle.pivot_dispatch.proofs.ending.Ending.priced.Goals as goal

pub prices-requires-clause-end : goal.prices-requires-clause-end
prices-requires-clause-end c =
    let ended = c.requires.ended in
    (ended.0, (ended.1.of.instance_is, end_is c.args.self.now ended.0 ended.1 c.end.result c.end.ensures.table c.end.ensures.unknowns c.end.ensures.limits c.end.ensures.rights))

pub prices-requires-clause-row : goal.prices-requires-clause-row
prices-requires-clause-row c =
    let rows = rows_are c.args.self.now c.requires.ended.0 c.requires.ended.1 in
    subst (λ t. (c.len-cost.result + 1) < length t.rows) (sym c.end.ensures.table) (omega arith)

pub within-requires : goal.within-requires
within-requires c =
    let task = c.requires.ended.0 in
    let ended = c.requires.ended.1 in
    let scale = c.requires.scale task ended in
    let high = cost_positive task c.args.self.now.last.now.table (table_reached c.args.self.now task ended) ended.is in
    let low : pos 0 ≤ℤ c.args.k = omega (arith, linear) in
    subst (λ z. pos 0 ≤ℤ z) (sym (to_z-of_z w128 c.args.k c.ranges.k)) low

pub scaled-requires-clause-table : goal.scaled-requires-clause-table
scaled-requires-clause-table c within task ended =
    let is = end_is c.args.self.now task ended c.end.result c.end.ensures.table c.end.ensures.unknowns c.end.ensures.limits c.end.ensures.rights in
    let rules = rules_are c.args.self.now task ended in
    let row : c.len-cost.result + 1 ≡ (program task).rules + 1 = omega arith in
    let same : row_at c.end.result.table.now.rows (c.len-cost.result + 1) ≡ cost_row task c.args.self.now.last.now.table =
    λ i. row_at (c.end.ensures.table i).rows (row i) in
    let kept = to_z-of_z w128 c.args.k c.ranges.k in
    let fits : SFits w64 c.within.result = search in
    let least : c.args.k ≤ℤ pos 1000000000 = subst (λ z. z ≤ℤ pos 1000000000) kept within in
    let priced = subst (λ k. IsPriceTable task (row_at c.end.result.table.now.rows (c.len-cost.result + 1)) k c.in-Ok.table) (to_z-of_z w64 c.within.result fits ∙ c.within.ensures.same within ∙ kept)
    (c.in-Ok.ensures.table task ended.of.instance_is is) in
    record {
      prices = subst (λ k. IsPriceTable task (cost_row task c.args.self.now.last.now.table) k c.in-Ok.table) (sym priced.scale)
          (subst (λ r. IsPriceTable task r c.args.k c.in-Ok.table) same priced);
      scale = priced.scale ∙ c.requires.scale task ended;
      within = subst (λ z. z ≤ℤ pos 1000000000) (sym priced.scale) least;
      forms = c.requires.narrow task ended;
      reading = subst (λ r. IsNarrow (ReadingForms (program task) r)) same (c.in-Ok.ensures.narrow task is);
      small = λ listed same_limits i h own.
          subst (λ (r : List ℤ). unsigned_abs (multiplier (program task) r i) ≤ 100000000000000) same
          (c.in-Ok.ensures.within task is i h
          (subst (λ l. IsTrue (is_priced (limit_of (limit_in l i)))) (sym c.end.ensures.limits)
          (ap is_priced (limit_is task c.args.self.now.last.now.limits.items ended.limits i ∙ sym (limit_is task listed same_limits i)) ∙ own)));
    }

pub returns-in-Err : goal.returns-in-Err
returns-in-Err c =
    let task = c.requires.ended.0 in
    let ended = c.requires.ended.1 in
    let is = end_is c.args.self.now task ended c.end.result c.end.ensures.table c.end.ensures.unknowns c.end.ensures.limits c.end.ensures.rights in
    let rules = rules_are c.args.self.now task ended in
    let row : c.len-cost.result + 1 ≡ (program task).rules + 1 = omega arith in
    IfOk-weaker c.unpriced.result (Tells c.in-Err.unfit c.args.self.now.pivots) (IsAnswer c.args.self.now.instance.now c.args.self.now.patterns.now)
    (λ pivot tells.
    unpriced_cost c.args.self.now task ended (row_at c.end.result.table.now.rows (c.len-cost.result + 1)) c.in-Err.unfit pivot
    (cheapest_here c.args.self.now task ended c.requires.allowed c.requires.lawful c.requires.none)
    (λ i. row_at (c.end.ensures.table i).rows (row i))
    (subst (λ l. IsUnfit (program task) l (row_at c.end.result.table.now.rows (c.len-cost.result + 1)) c.in-Err.unfit) c.end.ensures.limits (c.in-Err.ensures.unfit task is))
    tells)
    c.unpriced.ensures
