-- The rows' invariant, read at the place.
use Rattle.std.proofs.Common.{◌<◌, ◌≤◌, [], length, sym, subst, None, IfSome, unsigned_abs, slice_index_or}
use Rattle.std.proofs.lemmas.List.{get_or_read}
use Rattle.uc_model.specs.declared.limits.TheConstants.{MAX_TERM}
use Rattle.interval_graph.proofs.intervals.Intervals.term.Goals as goal

pub returns-clause-size : goal.returns-clause-size
returns-clause-size c =
    let rows = c.self.inside.rows.items in
    let within : c.args.t < length rows = subst (λ l. c.args.t < length l) (sym c.self.view_is) c.requires in
    let row = get_or_read rows c.args.t c.index.result.now within c.index.ensures [] in
    subst (λ o. IfSome o (λ m. unsigned_abs m ≤ MAX_TERM))
    (sym (λ i. slice_index_or (row i) (c.place.ensures.value i) None))
    (c.self.invariant.0.size c.args.t c.args.start c.args.stop within)
