-- Each row is cut to the periods.
use Rattle.std.proofs.Common.{arith, ◌≡◌, IfOk}
use Rattle.dispatch_repair.specs.Prelude.{Printed, HasPeriods, Rows, AreSameBelow, printed_of}
use Rattle.dispatch_repair.proofs.RowsEdits.{cut_at, cut_same, cut_shape}
use Rattle.dispatch_repair.proofs.rows.first_periods.Goals as goal

-- the rows as they are cut
cut_rows : (c : goal.After-printed) → Rows
cut_rows c = record { thermal = c.cut.new.rows; renewable = c.cut-2.new.rows; shed = c.truncate.new.self; short = c.truncate-2.new.self }

cut-is : (c : goal.After-printed) → printed_of (cut_rows c) ≡ cut_at c.args.periods (printed_of c.args.rows)
unfolding cut_rows
cut-is c = λ i. record {
  thermal = c.cut.ensures i;
  renewable = c.cut-2.ensures i;
  shed = c.truncate.ensures.items i;
  short = c.truncate-2.ensures.items i;
  denominator = 1;
}

-- so what is printed of them is what is cut
cut_printed : (c : goal.After-printed) (P : Printed → Type 0) → P (cut_at c.args.periods (printed_of c.args.rows)) → IfOk c.printed.result P
unfolding cut_rows
cut_printed c P h = grind (arith, h)

pub returns-clause-shape : goal.returns-clause-shape
returns-clause-shape c = λ instance shape h.
    cut_printed c (HasPeriods instance c.args.periods) (cut_shape instance c.args.periods (printed_of c.args.rows) shape h)

pub returns-clause-same : goal.returns-clause-same
returns-clause-same c = cut_printed c (AreSameBelow c.args.periods (printed_of c.args.rows)) (cut_same c.args.periods (printed_of c.args.rows))
