-- The corners with the next point: the same where it lies over the last one, else those that stay, and the point.
use Rattle.std.proofs.Common.{◌≡◌, ◌+◌, sym, ap, subst, arith, suc, [], ◌∷◌, ◌++◌, take, length, ◌∙◌, slice_set}
use Rattle.std.proofs.lemmas.List.{take_more_set, take-take, length-take-le}
use Rattle.uc_model.specs.Prelude.{point_of}
use Rattle.cost_curves.specs.LowerHull.{HullOfFirst}
use Rattle.cost_curves.proofs.JoinedCorners.{next-from, hull_over, hull_joined, extended}
use Rattle.cost_curves.proofs.corners.join.Goals as goal

pub returns-then-is_over_last-clause-hull : goal.returns-then-is_over_last-clause-hull
returns-then-is_over_last-clause-hull c =
    let front = take c.args.held c.args.corners.now in
    let whole = hull_over c.args.points.now c.args.count front c.is_over_last.result c.requires.lawful c.requires.within c.requires.hull
    (record { none = c.is_over_last.ensures.none; some = c.is_over_last.ensures.some }) c.if-is_over_last.true in
    let next : suc c.args.count ≡ c.args.count + 1 = omega arith in
    subst (λ n. HullOfFirst c.args.points.now n front) next whole

pub kept_corners-kept-requires-clause-next : goal.kept_corners-kept-requires-clause-next
kept_corners-kept-requires-clause-next c = grind (arith, next-from, c)

pub returns-clause-hull : goal.returns-clause-hull
returns-clause-hull c =
    let points = c.args.points.now in
    let count = c.args.count in
    let corners = c.args.corners.now in
    let kept = c.kept_corners-kept.result in
    let point = point_of points count in
    let front = take c.args.held corners in
    let next = next-from points count front c.is_over_last.result c.requires.lawful c.requires.within c.requires.hull
    (record { none = c.is_over_last.ensures.none; some = c.is_over_last.ensures.some }) c.if-is_over_last.false in
    let held : length front ≡ c.args.held = length-take-le c.args.held corners (omega arith) in
    let whole = hull_joined points count front (take kept front ++ point ∷ []) kept
    c.requires.hull next c.kept_corners-kept.ensures.within c.kept_corners-kept.ensures.joins
    (extended front kept point c.kept_corners-kept.ensures.within) in
    let all : take kept front ++ point ∷ [] ≡ take (kept + 1) (slice_set corners kept point) =
    ap (λ xs. xs ++ point ∷ []) (take-take kept c.args.held corners (omega arith)) ∙ sym (take_more_set corners kept point (omega arith)) in
    let following : suc count ≡ count + 1 = omega arith in
    subst (λ n. HullOfFirst points n (take (kept + 1) (slice_set corners kept point))) following (subst (λ xs. HullOfFirst points (suc count) xs) all whole)
