-- The corners are the front of the list that they were put into. They are lawful, and as wide as the points.
use Rattle.std.proofs.Common.{◌≡◌, ℕ, ◌≤◌, List, ◌++◌, arith, take, length, ◌∙◌}
use Rattle.std.proofs.lemmas.List.{take-take, take-append-le}
use Rattle.cost_curves.specs.LowerHull.{Point, IsLowerHull}
use Rattle.cost_curves.proofs.HullValues.{lawful_corners, whole_width}
use Rattle.cost_curves.proofs.curve.Curve.of.Goals as goal

-- what is cut off behind the front doesn't count
front_of : (count len : ℕ) (xs rest : List Point) → count ≤ len → count ≤ length xs → take count (take len (xs ++ rest)) ≡ take count xs
front_of count len xs rest within room = take-take count len (xs ++ rest) within ∙ take-append-le count xs rest room

hull_of : (c : goal.After-truncate) → IsLowerHull c.args.points.now c.truncate.new.self.items
hull_of c = grind (arith, front_of)

pub invariant_of-result : goal.invariant_of-result
invariant_of-result c = lawful_corners c.args.points.now c.truncate.new.self.items (hull_of c)

pub returns-clause-hull : goal.returns-clause-hull
returns-clause-hull c = hull_of c

pub returns-clause-width : goal.returns-clause-width
returns-clause-width c = whole_width c.args.points.now c.truncate.new.self.items (hull_of c)
