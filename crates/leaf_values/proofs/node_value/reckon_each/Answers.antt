-- One unit more.
use Rattle.std.proofs.Common.{arith}
use Rattle.std.proofs.lemmas.List.{get_or_default}
use Rattle.leaf_values.proofs.Reckoned.{kept_more, reckoned_as, reckoned_more}
use Rattle.leaf_values.proofs.node_value.reckon_each.Goals as goal

pub loop-g-preserved : goal.loop-g-preserved
loop-g-preserved c = grind (arith, get_or_default, reckoned_as, reckoned_more, kept_more, c)
