-- The largest of the numbers, or 0 where there is none.
use Rattle.std.proofs.Common.{◌≤◌, arith, sym, ◌∙◌, length, pos}
use Rattle.std.proofs.lemmas.List.{get_or_default, get_or_past}
use Rattle.pivot_run.proofs.SpreadRows.{largest_number}
use Rattle.pivot_run.proofs.row.Row.largest_number.Goals as goal

pub returns-then-self-len-clause-largest : goal.returns-then-self-len-clause-largest
returns-then-self-len-clause-largest c =
    let row = c.self.inside in
    let there = c.index.ensures ∙ get_or_default row.entries.numbers.items row.largest c.index.result.now (pos 0) (omega arith) in
    (largest_number row.len row.entries.columns.items row.entries.numbers.items row.largest c.args.self.now c.index.result.now c.self.invariant.0 c.self.invariant.1 c.self.invariant.2
    c.self.view_is there).0

pub returns-then-self-len-clause-number : goal.returns-then-self-len-clause-number
returns-then-self-len-clause-number c =
    let row = c.self.inside in
    let there = c.index.ensures ∙ get_or_default row.entries.numbers.items row.largest c.index.result.now (pos 0) (omega arith) in
    (largest_number row.len row.entries.columns.items row.entries.numbers.items row.largest c.args.self.now c.index.result.now c.self.invariant.0 c.self.invariant.1 c.self.invariant.2
    c.self.view_is there).1

pub returns-else-self-len-clause-largest : goal.returns-else-self-len-clause-largest
returns-else-self-len-clause-largest c =
    let row = c.self.inside in
    let past : length row.entries.numbers.items ≤ row.largest = omega arith in
    (largest_number row.len row.entries.columns.items row.entries.numbers.items row.largest c.args.self.now (pos 0) c.self.invariant.0 c.self.invariant.1 c.self.invariant.2
    c.self.view_is (sym (get_or_past row.entries.numbers.items row.largest (pos 0) past))).0
