-- A rule more.
use Rattle.std.proofs.Common.{if◌then◌else◌, pos, length}
use Rattle.dispatch_program.specs.Prelude.{has_artificial, rule_number}
use Rattle.dispatch_table.specs.Numbers.{column_of, program_of}
use Rattle.dispatch_table.proofs.ColumnLists.{off_more}
use Rattle.dispatch_table.proofs.program.Numbers.rules_off.Goals as goal

pub loop-i-preserved : goal.loop-i-preserved
loop-i-preserved c =
    let p = program_of c.args.self.now in
    let more = off_more _ c.number_off.result c.with_term-total.result c.loop-i.i (length c.as_slice-limits.result.now)
    (λ i. if has_artificial (program_of c.args.self.now) i then rule_number (program_of c.args.self.now) i (column_of c.args.column.now) else pos 0)
    c.with_term-total.ensures c.number_off.ensures.size c.number_off.ensures.value c.loop-i.invariant.value c.loop-i.invariant.size c.loop-i-test.true
    c.as_slice-limits.type_inv.1 in
    record { value = more.0; size = more.1 }
