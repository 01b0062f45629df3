-- Each turn makes the change of its place.
use Rattle.std.proofs.Common.{arith}
use Rattle.table_list.specs.inside.Steps.{numbered}
use Rattle.table_list.proofs.Rebuilding.{made_rising, made_more}
use Rattle.table_list.proofs.numbers.Numbers.make_all.Goals as goal

pub loop-change-preserved : goal.loop-change-preserved
loop-change-preserved c = record {
  rising = made_rising (numbered c.loop-change.self) (numbered c.make.new.self) _ c.in_ok-make.ensures c.loop-change.invariant.rising;
  left = made_more (numbered c.loop-change.self) (numbered c.make.new.self) _ c.args.changes.now c.loop-change.change-index _ (omega arith) c.in_ok-make.ensures c.loop-change.invariant.left;
}
