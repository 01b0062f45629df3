-- What is looked up and set lies behind the rows that were passed.
use Rattle.std.proofs.Common.{arith, ◌≡◌, true, ap, sym, ◌∙◌, rules}
use Rattle.table_list.specs.Changes.{RampRow}
use Rattle.cert_text.specs.inside.Drafts.{differs}
use Rattle.cert_text.proofs.RowSteps.{found_behind, row_set}
use Rattle.cert_text.proofs.reader.update.set_row.Goals as goal

pub returns-then-not-differs : goal.returns-then-not-differs
returns-then-not-differs c = grind (arith, found_behind, c)

pub returns : goal.returns
returns c =
    let other : c.differs.result ≡ true = search rules in
    row_set c.args.done.now.items c.args.left.now c.pass_before.new.done.items c.in_ok-rest.rest.now c.push_some.new.rows.items c.split_cell.result.1.now c.args.row.now
    c.in_ok-rest.ensures (ap (λ (old : RampRow). differs old c.args.row.now) (sym c.split_cell.ensures.old) ∙ sym c.differs.ensures ∙ other)
    c.split_cell.ensures.behind c.split_cell.ensures.rising c.in_ok-push_some.ensures
