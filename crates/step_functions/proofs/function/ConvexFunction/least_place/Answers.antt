-- The values with the slope are least behind the steps that fall with it.
use Rattle.std.proofs.Common.{◌≡◌, arith, pos, neg_ℤ, ◌+ℤ◌, to_z, of_z}
use Rattle.std.specs.Int.{w64}
use Rattle.std.proofs.lemmas.Int.{ints}
use Rattle.step_functions.specs.inside.Edits.{AreBelow}
use Rattle.step_functions.proofs.Bottoms.{turned-least}
use Rattle.step_functions.proofs.function.ConvexFunction.least_place.Goals as goal

-- the steps that still fall
falling : (c : goal.After-steps_below) → AreBelow c.args.self.now.runs (neg_ℤ c.args.slope) c.steps_below.result
falling c = grind (arith, ints)

-- and the place behind them
behind : (c : goal.After-steps_below)
    → to_z w64 (of_z w64 (to_z w64 (of_z w64 c.self.inside.first) +ℤ to_z w64 c.steps_below.result)) ≡ c.args.self.now.first +ℤ pos c.steps_below.result
behind c = grind (arith, ints)

pub returns-clause-least : goal.returns-clause-least
returns-clause-least c = turned-least c.args.self.now c.args.slope _ c.steps_below.result (falling c) (behind c)

pub returns-clause-place : goal.returns-clause-place
returns-clause-place c = grind (arith, ints, c)
