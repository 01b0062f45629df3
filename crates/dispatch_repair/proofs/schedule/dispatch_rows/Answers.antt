-- A period more is filled, or the dispatch is stuck in it.
use Rattle.std.proofs.Common.{arith, suc, subst, sym}
use Rattle.dispatch_repair.specs.Prelude.{printed_of}
use Rattle.dispatch_repair.proofs.Periods.{AreFilledBelow, begun, next_filled, obstacle_of}
use Rattle.dispatch_repair.proofs.Writing.{written_is, written_shape}
use Rattle.dispatch_repair.proofs.schedule.dispatch_rows.Goals as goal

pub loop-t-init : goal.loop-t-init
loop-t-init c = record {
  room = c.begin.ensures.room;
  filled = begun c.args.instance.now c.args.patterns.now (printed_of c.args.rows.now) c.begin.new.room.amounts.items c.requires.lawful c.requires.rows
      c.begin.ensures.room.amounts c.begin.ensures.initial;
}

pub returns-in-Err-clause-dispatch : goal.returns-in-Err-clause-dispatch
returns-in-Err-clause-dispatch c =
    obstacle_of c.args.instance.now c.args.patterns.now c.loop-t.t (printed_of c.loop-t.rows) c.loop-t.room.amounts.items c.in-Err.why c.loop-t.invariant.filled
    c.loop-t-test.true c.in-Err.ensures.dispatched

pub dispatch_period-requires-clause-before : goal.dispatch_period-requires-clause-before
dispatch_period-requires-clause-before c = grind (arith, c)

pub loop-t-preserved : goal.loop-t-preserved
loop-t-preserved c =
    let instance = c.args.instance.now in
    let old = printed_of c.loop-t.rows in
    let room = c.dispatch_period.new.room in
    let before = c.loop-t.invariant.filled in
    record {
      room = c.dispatch_period.ensures.room;
      filled = subst (λ k. AreFilledBelow instance c.args.patterns.now k (printed_of c.write_period.new.rows) room.amounts.items) (omega arith)
          (subst (λ new. AreFilledBelow instance c.args.patterns.now (suc c.loop-t.t) new room.amounts.items) (sym c.write_period.ensures)
          (next_filled instance c.args.patterns.now c.loop-t.t old _ c.loop-t.room.amounts.items room.amounts.items room.heads.items c.in-Ok.shortage
          (written_shape instance room.amounts.items room.heads.items c.in-Ok.shortage c.loop-t.t old before.committed.shape c.loop-t-test.true)
          c.dispatch_period.ensures.room.amounts before c.loop-t-test.true c.in-Ok.ensures.dispatched
          (written_is instance room.amounts.items room.heads.items c.in-Ok.shortage c.loop-t.t old before.committed.shape c.loop-t-test.true)));
    }

pub returns-clause-dispatch : goal.returns-clause-dispatch
returns-clause-dispatch c = grind (arith, c)
