-- The value is another, and its entry is mended upwards.
use Rattle.std.proofs.Common.{arith, set, ap}
use Rattle.branch_tree.specs.inside.Minima.{MinimaView}
use Rattle.branch_tree.proofs.Tournament.{value_written}
use Rattle.branch_tree.proofs.minima.Minima.set.Goals as goal

pub mend-requires : goal.mend-requires
mend-requires c = grind (arith, value_written, c)

pub invariant_of-self : goal.invariant_of-self
invariant_of-self c = grind (arith, c)

pub returns : goal.returns
returns c = ap (λ (v : MinimaView). record v { values = set v.values c.args.place c.args.value }) c.self.view_is
