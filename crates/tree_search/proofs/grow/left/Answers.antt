-- What the book has is what the search leaves.
use Rattle.std.proofs.Common.{refl, subst}
use Rattle.branch_tree.specs.Prelude.{IsWhole}
use Rattle.tree_search.proofs.Left.{ended_grown, pivoted_grown}
use Rattle.tree_search.proofs.grow.left.Goals as goal

pub returns-clause-grown : goal.returns-clause-grown
returns-clause-grown g c = λ instance opening budget gap same.
    ended_grown c.tree_runs_hold.ensures g.C.SearchCase.exact g.C.Case.opening c.args.book c.args.best instance opening budget gap _ same c.keeps_run.ensures (subst IsWhole c.finish-tree.ensures.tree c.keeps_cover.ensures) c.requires.ended
    c.finish-tree.ensures.tree c.finish-tree.ensures.tables c.finish-tree.ensures.log refl

pub returns-clause-pivoted : goal.returns-clause-pivoted
returns-clause-pivoted g c = λ instance opening budget gap same.
    pivoted_grown g.C.SearchCase.exact_dispatch g.C.Case.opening c.args.book instance opening budget gap _ same c.requires.pivoted c.finish-tree.ensures.tree
    c.finish-tree.ensures.tables c.finish-tree.ensures.log
