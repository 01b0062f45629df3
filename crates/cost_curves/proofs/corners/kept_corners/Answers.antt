-- The kept corners cover the points, and the test that ends the loop leaves those that stay.
use Rattle.std.proofs.Common.{arith, sym, subst}
use Rattle.uc_model.specs.Prelude.{point_of}
use Rattle.cost_curves.specs.LowerHull.{IsLawfulPoint}
use Rattle.cost_curves.proofs.JoinedCorners.{covers_start, covers_next, joins}
use Rattle.cost_curves.proofs.corners.kept_corners.Goals as goal

pub loop-point-init : goal.loop-point-init
loop-point-init c = covers_start c.args.points.now c.args.count c.args.corners.now (point_of c.args.points.now c.args.count) c.requires.hull c.requires.next

pub is_covered-requires-clause-lawful : goal.is_covered-requires-clause-lawful
is_covered-requires-clause-lawful c = λ i h.
    let found = c.requires.hull.place i h in
    subst IsLawfulPoint (sym found.2) (c.requires.lawful.each found.0 (omega (arith, found.1, c.requires.within)))

pub loop-point-preserved : goal.loop-point-preserved
loop-point-preserved c = grind (arith, covers_next, c)

pub returns-clause-joins : goal.returns-clause-joins
returns-clause-joins c = grind (arith, joins, c)
