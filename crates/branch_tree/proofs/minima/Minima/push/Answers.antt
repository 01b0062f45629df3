-- The value has its entry, which is mended upwards.
use Rattle.std.proofs.Common.{arith, ◌∙◌}
use Rattle.branch_tree.proofs.Tournament.{value_added}
use Rattle.branch_tree.proofs.minima.Minima.push.Goals as goal

pub mend-requires : goal.mend-requires
mend-requires c = value_added c.self.inside.values.items c.self.inside.entries.items c.deref.result.now c.push_reserved-2.new.self.items
    c.len-place.result c.args.value c.self.invariant.0 (c.deref.ensures.value ∙ c.push_reserved.ensures.items) c.push_reserved-2.ensures.items
    (c.len-place.ensures ∙ c.self.inside.values.ok.0)

pub invariant_of-self : goal.invariant_of-self
invariant_of-self c = grind (arith, c)

pub returns : goal.returns
returns c = grind (arith, c)
