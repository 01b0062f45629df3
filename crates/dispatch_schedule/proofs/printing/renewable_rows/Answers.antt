-- The next row.
use Rattle.std.proofs.Common.{ℤ, List, ◌+◌, sym, subst}
use Rattle.dispatch_schedule.specs.inside.Chosen.{AreNumbers, AreRows, renewable_of}
use Rattle.dispatch_schedule.proofs.Rows.{rows_more}
use Rattle.dispatch_schedule.proofs.printing.renewable_rows.Goals as goal

pub loop-w-preserved : goal.loop-w-preserved
loop-w-preserved c =
    let f = renewable_of c.args.instance.now c.args.chosen.now c.args.denominator in
    subst (AreRows f c.args.instance.now.periods (c.loop-w.w + 1)) (sym {A = List (List ℤ)} c.in_ok-push.ensures.items)
    (rows_more f c.args.instance.now.periods c.loop-w.w c.loop-w.rows.items c.from_vec.result c.loop-w.invariant
    (subst (AreNumbers (f c.loop-w.w) c.args.instance.now.periods) (sym c.from_vec.ensures) c.in_ok-row.ensures))
