-- The columns are fewer than what fits, and those of a rule more.
use Rattle.std.proofs.Common.{◌+◌, arith, ap, length}
use Rattle.std.proofs.lemmas.List.{length-map}
use Rattle.dispatch_rules.specs.Prelude.{limit_of}
use Rattle.dispatch_program.specs.Prelude.{has_artificial, is_limit, slacks}
use Rattle.dispatch_table.specs.Numbers.{program_of}
use Rattle.dispatch_table.proofs.ColumnLists.{basis_is, basis_more, place_more}
use Rattle.dispatch_table.proofs.basis.basis.Goals as goal

pub next-artificial-requires : goal.next-artificial-requires
next-artificial-requires c =
    let a = ap length c.as_slice-amounts.ensures.value in
    let l = ap length c.as_slice-limits.ensures.value in
    omega (arith, c.as_slice-amounts.type_inv.1, c.as_slice-limits.type_inv.1)

pub overflow_add-artificial : goal.overflow_add-artificial
overflow_add-artificial c =
    let a = ap length c.as_slice-amounts.ensures.value in
    let l = ap length c.as_slice-limits.ensures.value in
    omega (arith, c.as_slice-amounts.type_inv.1, c.as_slice-limits.type_inv.1)

pub loop-i-preserved : goal.loop-i-preserved
loop-i-preserved c =
    let p = program_of c.args.numbers.now in
    let before = c.loop-i.invariant in
    let amounts = length c.args.numbers.now.amounts.items in
    let more =
    place_more (has_artificial p) (amounts + slacks p) c.loop-i.i c.loop-i.artificial c.next-artificial.result c.has_artificial-has_artificial.result
    (omega (arith, before.artificial)) c.has_artificial-has_artificial.ensures c.next-artificial.ensures.value in
    record {
      basis = basis_more p c.loop-i.basis.items c.push.new.self.items c.loop-i.i c.loop-i.slack c.loop-i.artificial c.own_column.result c.has_artificial-has_artificial.result
          before.basis before.slack before.artificial c.has_artificial-has_artificial.ensures c.own_column.ensures c.in_ok-push.ensures.items;
      slack = place_more (is_limit p) amounts c.loop-i.i c.loop-i.slack c.next-slack.result c.is_limit.result before.slack c.is_limit.ensures c.next-slack.ensures.value;
      slack_size = omega (arith, c.next-slack.ensures.size, before.slack_size);
      artificial = omega (arith, more);
      artificial_size = omega (arith, c.next-artificial.ensures.size, before.artificial_size);
    }

pub returns : goal.returns
returns c =
    let l = ap length c.as_slice-limits.ensures.value in
    basis_is (program_of c.args.numbers.now) c.loop-i.basis.items c.push-2.new.self.items c.push-3.new.self.items c.loop-i.i c.loop-i.artificial
    (omega (arith, length-map c.args.numbers.now.limits.items limit_of)) c.loop-i.invariant.basis c.loop-i.invariant.artificial c.in_ok-push-2.ensures.items c.in_ok-push-3.ensures.items
