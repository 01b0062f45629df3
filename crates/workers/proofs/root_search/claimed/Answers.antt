-- The search over the tree ends with what is answered.
use Rattle.std.proofs.Common.{subst, sym, IfOk}
use Rattle.dual_model.specs.Prelude.{HasEachPattern, root}
use Rattle.branch_tree.specs.Prelude.{tree_of}
use Rattle.decommitment.specs.Standings.{IsDropped, ending_of}
use Rattle.opening.specs.Blocked.{HasNoBlockedUnit}
use Rattle.opening.specs.Rays.{HasNoRay}
use Rattle.opening.specs.RootTables.{IsPricedOf}
use Rattle.uc_model.specs.declared.instance.Instance.{Instance}
use Rattle.search_answers.specs.Opening.{IsRootTable}
use Rattle.search_answers.specs.Answers.{IsAnswerOf}
use Rattle.search_answers.specs.Best.{IsBest}
use Rattle.search_desk.specs.Grown.{IsGrown, IsPivotedGrown}
use Rattle.search_answers.proofs.Answered.{opening_quiet}
use Rattle.search_answers.proofs.NoDearer.{no_dearer_through}
use Rattle.search_answers.proofs.WrittenTables.{each_within}
use Rattle.workers.proofs.root_search.claimed.Goals as goal

pub bounded-requires-clause-patterns : goal.bounded-requires-clause-patterns
bounded-requires-clause-patterns g c = subst HasEachPattern (sym c.instance-instance.ensures.is) c.requires.patterns

pub bounded-requires-clause-whole : goal.bounded-requires-clause-whole
bounded-requires-clause-whole g c = c.in_ok-grown.ensures.grown.tree.whole

pub bounded-requires-clause-stored : goal.bounded-requires-clause-stored
bounded-requires-clause-stored g c =
    let grown = c.in_ok-grown.grown in
    each_within c.args.worker grown.tables root (tree_of grown.tree) c.in_ok-grown.ensures.grown.tree.stored

pub returns : goal.returns
returns g c =
    let instance = c.args.worker in
    let own = c.instance-instance.ensures.is in
    let opening = c.args.opened.start.opening in
    let budget = c.args.options.now.budget in
    let gap = c.args.options.now.gap in
    let exact = c.args.options.now.exact_units in
    let opened = c.requires.opened in
    let stands = opened.standing in
    let left = c.in_ok-grown.grown in
    let grown = c.in_ok-grown.ensures.grown in
    let pivot = c.args.options.now.pivot in
    let best : IsBest pivot instance (ending_of stands) left.best = record {
      found = c.in_ok-grown.ensures.found;
      no_dearer = no_dearer_through c.args.opened.start.best left.best (ending_of stands) c.in_ok-grown.ensures.no_worse opened.no_dearer;
    } in
    subst (λ (i : Instance). IfOk c.bounded.result (IsAnswerOf exact pivot i budget gap)) own
    (c.bounded.ensures exact pivot budget gap stands opening (subst (HasNoRay exact) (sym own) c.requires.rays)
    (subst (HasNoBlockedUnit exact) (sym own) c.requires.unblocked) (subst (λ (i : Instance). IsDropped i stands) (sym own) opened.dropped) opened.stuck
    (subst (λ (i : Instance). IsBest pivot i (ending_of stands) left.best) (sym own) best)
    (subst (λ (i : Instance). IsRootTable i (ending_of stands) opening.table opening.value) (sym own) opened.table)
    (subst (λ (i : Instance). IsPricedOf i opening) (sym own) opened.priced)
    (subst (λ (i : Instance). IsGrown exact i opening budget gap left) (sym own) grown)
    (subst (λ (i : Instance). IsPivotedGrown pivot i budget gap left) (sym own) c.in_ok-grown.ensures.pivoted)
    (opening_quiet stands c.args.opened.start.best opening gap left.log opened.is_first c.in_ok-grown.ensures.quiet))
