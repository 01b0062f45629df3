-- The least way from the initial state on is the unit's exact value.
use Rattle.std.proofs.Common.{◌≡◌, ℕ, ◌<◌, ◌≤◌, List, length, ℤ, to_z, of_z, ap, ◌∙◌, arith}
use Rattle.std.specs.Int.{w64}
use Rattle.std.proofs.lemmas.Int.{ints}
use Rattle.step_functions.specs.Functions.{run_count}
use Rattle.hull_function.specs.Hulls.{IsHull, IsScale, Point}
use Rattle.uc_model.specs.Prelude.{IsLawfulInstance, thermal_count, thermal_unit}
use Rattle.dual_model.specs.Prelude.{HasSizeOf, IsWithinLimits}
use Rattle.hull_function.proofs.Units.{lawful-problem, scale-of, unit-read}
use Rattle.unit_runs.specs.Patterns.{Instance}
use Rattle.state_walk.specs.Sizes.{Size}
use Rattle.state_walk.specs.inside.Problems.{IsLawful, Steps, Table, Thermal}
use Rattle.state_walk.proofs.ExactValues.{exact-size, exact-value}
use Rattle.state_walk.proofs.exact.least_exact.Goals as goal
use Rattle.state_walk.proofs.exact.least_exact.Goals.{After-fill}

-- the scale as its bits
scale-is : (k r : ℤ) → IsScale k → r ≡ k → to_z w64 (of_z w64 r) ≡ k
scale-is k r scale e = grind (arith, ints, scale, e)

-- the problem of the unit that is read
problem-of : (instance : Instance) (table : Table) (g : ℕ) (unit : Thermal) (points : List Point) (k : ℤ) (hull : Steps) (room : ℕ) → IsLawfulInstance instance
    → g < thermal_count instance → HasSizeOf instance table → IsWithinLimits table → unit ≡ thermal_unit instance g → points ≡ unit.points → k ≡ table.k
    → IsHull points k hull → run_count hull < length points → hull.room ≡ room → length (thermal_unit instance g).points ≤ room
    → IsLawful instance.periods table unit hull
problem-of instance table g unit points k hull room lawful known size limits unit_is points_is scale is pieces room_is enough =
    grind (arith, ints, lawful-problem, lawful, known, size, limits, unit_is, points_is, scale, is, pieces, room_is, enough)

pub fill-requires-clause-scale : goal.fill-requires-clause-scale
fill-requires-clause-scale c = grind (arith, ints, c)

pub fill-requires-clause-curve : goal.fill-requires-clause-curve
fill-requires-clause-curve c = grind (arith, ints, unit-read, c)

-- as it is after L was made
made : (c : After-fill) → IsLawful c.args.instance.now.periods c.args.table.now c.index-as_slice-g.result c.fill.new.function
made c =
    let instance = c.args.instance.now in
    let table = c.args.table.now in
    let unit = unit-read instance c.as_slice.result.now c.args.g c.index-as_slice-g.result c.as_slice.ensures c.requires.unit c.index-as_slice-g.is in
    let scale = scale-is table.k c.k.result (scale-of instance table c.requires.table c.requires.limits) c.k.ensures in
    problem-of instance table c.args.g c.index-as_slice-g.result c.as_slice-2.result.now (to_z w64 (of_z w64 c.k.result)) c.fill.new.function c.args.walk.now.points
    c.requires.lawful c.requires.unit c.requires.table c.requires.limits unit c.as_slice-2.ensures scale c.fill.ensures.hull c.fill.ensures.pieces
    (c.fill.ensures.room ∙ ap (λ (s : Size). s.points) c.walk.view_is) c.requires.points

pub least_cost-requires-clause-lawful : goal.least_cost-requires-clause-lawful
least_cost-requires-clause-lawful c = made (goal.at.least_cost-requires-clause-lawful c).After-fill

pub returns-clause-value : goal.returns-clause-value
returns-clause-value c = grind (arith, ints, exact-value, unit-read, made, After-fill, c)

pub returns-clause-size : goal.returns-clause-size
returns-clause-size c =
    exact-size c.args.instance.now c.args.table.now c.args.g c.args.fix.now c.index-as_slice-g.result c.fill.new.function c.requires.lawful c.requires.unit
    (unit-read c.args.instance.now c.as_slice.result.now c.args.g c.index-as_slice-g.result c.as_slice.ensures c.requires.unit c.index-as_slice-g.is)
    (made (goal.at.returns-clause-size c).After-fill) c.least_cost.result c.least_cost.ensures.least
