-- Each column is the program's.
use Rattle.std.proofs.Common.{arith, map, ap, sym, subst, ◌∙◌, ◌^◌, ◌<◌, unsigned_abs}
use Rattle.std.proofs.lemmas.List.{take_all}
use Rattle.std.proofs.lemmas.Simd.{map-map}
use Rattle.uc_model.proofs.Sizes.{wide}
use Rattle.pivot_run.specs.Prelude.{IsSmall}
use Rattle.dispatch_program.specs.Prelude.{line_number}
use Rattle.dispatch_table.specs.Numbers.{column_of, line_of, program_of}
use Rattle.dispatch_table.specs.declared.column.Column.{Column}
use Rattle.dispatch_table.proofs.ColumnLists.{push_small, push_taken, read_column}
use Rattle.dispatch_table.proofs.rows.line_numbers.Goals as goal

pub number-requires-clause-column : goal.number-requires-clause-column
number-requires-clause-column c =
    read_column (program_of c.args.numbers.now) c.args.columns.now c.loop-column.column-index _ c.requires.columns c.loop-column-test.true

pub loop-column-preserved : goal.loop-column-preserved
loop-column-preserved c =
    let number = line_number (program_of c.args.numbers.now) (line_of c.args.line) in
    let items = c.in_ok-push.ensures.items in
    let bits = wide c.number.result (unsigned_abs c.number.result) (omega arith) c.number.ensures.size in
    record {
      row = push_taken (λ (column : Column). number (column_of column)) c.args.columns.now c.loop-column.column-index _ c.loop-column.row.items c.push.new.self.items _
          c.loop-column-test.true c.loop-column.invariant.row items (bits ∙ c.number.ensures.value);
      small = subst IsSmall (sym items) (push_small c.loop-column.row.items _ c.loop-column.invariant.small (subst (λ z. unsigned_abs z < 2 ^ 127) (sym bits) c.number.ensures.size));
    }

pub returns-clause-row : goal.returns-clause-row
returns-clause-row c =
    let number = line_number (program_of c.args.numbers.now) (line_of c.args.line) in
    c.loop-column.invariant.row
    ∙ ap (map (λ (column : Column). number (column_of column))) (take_all c.loop-column.column-index c.args.columns.now (omega arith))
    ∙ sym (map-map number column_of c.args.columns.now)
    ∙ ap (map number) c.requires.columns
