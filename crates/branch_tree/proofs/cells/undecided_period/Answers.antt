-- One cell more is decided.
use Rattle.std.proofs.Common.{below_more, sym, ◌∙◌}
use Rattle.branch_tree.proofs.cells.undecided_period.Goals as goal

pub loop-t-preserved : goal.loop-t-preserved
loop-t-preserved c = below_more _ _ c.loop-t.invariant (sym c.is_undecided.ensures ∙ c.if-is_undecided.false)
