use Rattle.tree_search.specs.inside.Searches.{opening_by}
use Rattle.tree_search.proofs.grow.search_tree.Given as goal

-- the book is of this opening, the passes are of this incumbent, and claims evaluate this kind of value
abbrev pub ghosts-grow-C-Case : goal.ghosts-grow-C-Case
ghosts-grow-C-Case g a =
    record { opening = opening_by a.begun.worker a.begun.start.opening a.options.now.budget a.options.now.gap }

abbrev pub ghosts-grow-C-SearchCase : goal.ghosts-grow-C-SearchCase
ghosts-grow-C-SearchCase g a = record { incumbent = a.begun.best.object; exact = a.options.now.exact_units; exact_dispatch = a.options.now.pivot }
