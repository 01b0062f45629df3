-- Each turn leaves the entry above, and the last one none.
use Rattle.std.proofs.Common.{◌∙◌, arith}
use Rattle.branch_tree.proofs.Tournament.{mended_up, mended_all}
use Rattle.branch_tree.proofs.minima.mend.Goals as goal

pub loop-reached-preserved : goal.loop-reached-preserved
loop-reached-preserved c = record {
  mended = mended_up c.args.values.now c.loop-reached.entries.items c.renew.new.entries.items c.loop-reached.reached
      c.loop-reached-test.true c.loop-reached.invariant.mended c.renew.ensures.entries;
  capacity = c.renew.ensures.capacity ∙ c.loop-reached.invariant.capacity;
}

pub returns-clause-entries : goal.returns-clause-entries
returns-clause-entries c = grind (arith, mended_all, c)
