-- The place that was reached names the split above it.
use Rattle.std.proofs.Common.{ap, sym, subst}
use Rattle.std.proofs.lemmas.Option.{slice_get-get_or, get_or_from_slice_get, slice_get_within}
use Rattle.branch_tree.specs.Places.{Place, IsInner, tree_from}
use Rattle.branch_tree.specs.inside.Paths.{ComesFrom}
use Rattle.branch_tree.proofs.Paths.{step_up}
use Rattle.branch_tree.proofs.places.above.Goals as goal

pub bounds-places-parent : goal.bounds-places-parent
bounds-places-parent c =
    let step = step_up c.args.places.now (tree_from c.args.places.now 0) c.args.node _ c.requires.placed c.requires.below
    (slice_get-get_or c.args.places.now c.args.node _ c.requires.within) in
    slice_get_within c.args.places.now _ _ step.stands

pub decision-requires : goal.decision-requires
decision-requires c =
    let step = step_up c.args.places.now (tree_from c.args.places.now 0) c.args.node _ c.requires.placed c.requires.below
    (slice_get-get_or c.args.places.now c.args.node _ c.requires.within) in
    subst (λ (p : Place). IsInner p.spot) (sym (get_or_from_slice_get c.args.places.now _ _ _ step.stands)) tt

pub returns : goal.returns
returns c =
    let step = step_up c.args.places.now (tree_from c.args.places.now 0) c.args.node _ c.requires.placed c.requires.below
    (slice_get-get_or c.args.places.now c.args.node _ c.requires.within) in
    let found = c.decision.ensures step.g step.t step.off step.on
    (ap (λ (p : Place). p.spot) (get_or_from_slice_get c.args.places.now _ _ _ step.stands)) in
    subst (ComesFrom (tree_from c.args.places.now 0) _ c.args.node) (sym found) step.up
