use Rattle.std.proofs.Common.{arith}
use Rattle.outside.proofs.Pairs.{next-pair, all-pairs}
use Rattle.outside.proofs.forms.put_pairs.Goals as goal

pub loop-index-preserved : goal.loop-index-preserved
loop-index-preserved g c =
    g.met.O.Out.emits_two _ _ _ _ _ _ c.loop-index.invariant c.put_pair.ensures
    (next-pair (g.F.PairForm.text c.args.form.now) c.args.firsts.now c.args.seconds.now c.loop-index.index _ _ (omega arith)
    (omega arith) c.index-firsts-index.is c.index-seconds-index.is)

pub returns : goal.returns
returns g c = rw (all-pairs c.args.firsts.now c.args.seconds.now c.loop-index.index (omega arith)) at c.loop-index.invariant
