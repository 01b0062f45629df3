use Rattle.pivot_closing.proofs.TreeSizes.{trees_are_small}
use Rattle.pivot_closing.proofs.laws.trees_are_small.Goals as goal

pub returns : goal.returns
returns c = trees_are_small
