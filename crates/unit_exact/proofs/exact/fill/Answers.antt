-- One entry more.
use Rattle.std.proofs.Common.{◌≡◌, suc, ◌+◌, ◌-◌, subst, arith, slice_set}
use Rattle.unit_exact.specs.inside.Switches.{IsTableFrom}
use Rattle.unit_exact.proofs.Tables.{table-more}
use Rattle.unit_exact.proofs.exact.fill.Goals as goal

pub switches-requires-clause-later : goal.switches-requires-clause-later
switches-requires-clause-later c = grind (arith, c)

pub loop-back-init : goal.loop-back-init
loop-back-init c = grind (arith, c)

pub loop-back-preserved : goal.loop-back-preserved
loop-back-preserved c =
    let p = c.args.problem.now in
    let back = c.loop-back.back in
    let t = p.periods - 1 - back in
    let here : t ≡ p.periods - (back + 1) = omega arith in
    let next : p.periods - back ≡ suc t = omega arith in
    record {
      room = c.switches.ensures.room;
      table =
          subst (λ k. IsTableFrom p.periods p.table.now p.unit.now p.fix.now k (slice_set c.loop-back.entries t c.switches.result)) here
          (table-more p.periods p.table.now p.unit.now p.fix.now c.loop-back.entries c.switches.result t (omega arith)
          (subst (λ k. IsTableFrom p.periods p.table.now p.unit.now p.fix.now k c.loop-back.entries) next c.loop-back.invariant.table)
          c.switches.ensures.switches);
    }

pub returns-clause-table : goal.returns-clause-table
returns-clause-table c = grind (arith, c)
