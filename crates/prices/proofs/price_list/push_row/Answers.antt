-- A row that lies in the size behind the others.
use Rattle.std.proofs.Common.{sym, subst}
use Rattle.prices.specs.inside.Moves.{AreLawfulRows, IsBehind}
use Rattle.prices.proofs.LawfulRows.{rows_more}
use Rattle.prices.proofs.price_list.push_row.Goals as goal

pub returns-in_ok-push : goal.returns-in_ok-push
returns-in_ok-push c =
    let rows = c.args.rows.now.items in
    let behind : IsBehind rows c.args.row = subst (λ r. IsBehind r c.args.row) c.deref.ensures.value (c.is_behind.ensures c.if-is_behind.true) in
    subst (AreLawfulRows c.args.units c.args.periods) (sym c.in_ok-push.ensures.items)
    (rows_more c.args.units c.args.periods rows c.args.row c.requires.rows (c.is_within.ensures c.if-is_within.true) behind c.requires.up c.requires.down)
