-- The corners are the last two of those that are kept.
use Rattle.std.proofs.Common.{◌≡◌, suc, ◌-◌, arith, ◌∙◌}
use Rattle.uc_model.specs.Prelude.{point_of}
use Rattle.cost_curves.specs.LowerHull.{is_above}
use Rattle.cost_curves.proofs.corners.is_covered.Goals as goal

pub returns-clause-more : goal.returns-clause-more
returns-clause-more c = λ i e.
    let before : c.args.count - 2 ≡ i = omega arith in
    let last : c.args.count - 1 ≡ suc i = omega arith in
    c.is_above_line.ensures
    ∙ (λ t. is_above (point_of c.args.corners.now (before t)) c.args.point.now (point_of c.args.corners.now (last t)))
