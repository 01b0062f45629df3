-- Where there is no claim, the search has ended.
use Rattle.std.proofs.Common.{◌≡◌, ◌∙◌, true, refl, subst, sym}
use Rattle.branch_tree.specs.Prelude.{tree_bound}
use Rattle.book.specs.Prelude.{BookView}
use Rattle.closing_pass.specs.Closings.{IsEnded, is_finished}
use Rattle.closing_pass.proofs.Ended.{spent_claims, spent_finished, spent_settled}
use Rattle.closing_pass.proofs.closing.next.Goals as goal

pub returns-then-is_finished-clause-ended : goal.returns-then-is_finished-clause-ended
returns-then-is_finished-clause-ended g c = λ none.
    let best = c.args.progress.now.best in
    let left = c.requires.left in
    let finished : is_finished best (tree_bound c.args.progress.now.book.tree) c.args.closing.gap ≡ true = sym c.is_finished.ensures ∙ c.if-is_finished.true in
    spent_finished g.C.SearchCase.exact g.C.Case.opening c.args.progress.now.book best left.0 c.keeps_run.ensures left.1.kept
    (subst (λ gap. is_finished best (tree_bound c.args.progress.now.book.tree) gap ≡ true) c.requires.gap finished)

pub returns-in_err-node-clause-ended : goal.returns-in_err-node-clause-ended
returns-in_err-node-clause-ended g c = λ none.
    let left = c.requires.left in
    spent_settled c.tree_runs_hold.ensures g.C.SearchCase.exact g.C.Case.opening c.args.progress.now.book c.args.progress.now.best left.0 c.keeps_run.ensures left.1.kept
    (c.in_err-node.ensures.none refl) (c.in_default.ensures.none refl)

pub returns-in-Spent-clause-ended : goal.returns-in-Spent-clause-ended
returns-in-Spent-clause-ended g c = λ none.
    let left = c.requires.left in
    let best = c.args.progress.now.best in
    subst (λ (b : BookView). IsEnded g.C.SearchCase.exact g.C.Case.opening b best) (sym c.in-Spent.ensures.1)
    (spent_claims g.C.SearchCase.exact g.C.Case.opening c.args.progress.now.book best left.0 c.keeps_run.ensures left.1.kept left.1.complete (c.in_default.ensures.none refl)
    c.in-Spent.ensures.0)
