-- The cells of one unit more are decided.
use Rattle.std.proofs.Common.{below_more, refl, IsTrue}
use Rattle.branch_tree.specs.Places.{tree_from}
use Rattle.branch_tree.specs.inside.Paths.{is_undecided_at}
use Rattle.branch_tree.proofs.cells.first_undecided.Goals as goal

pub loop-g-preserved : goal.loop-g-preserved
loop-g-preserved c = λ k t below inside.
    below_more (λ n. ¬ IsTrue (is_undecided_at (tree_from c.args.places.now 0) c.args.node n t)) c.loop-g.g
    (λ m under. c.loop-g.invariant m t under inside) (c.in_default.ensures.none refl t inside) k below
