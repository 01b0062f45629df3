-- A scale times a cost, and a way to the end.
use Rattle.std.proofs.Common.{◌*◌, ◌^◌, ◌≤◌, lit<, subst, arith, Option, unsigned_abs}
use Rattle.std.proofs.lemmas.Int.{ints}
use Rattle.uc_model.specs.declared.limits.TheConstants.{MAX_COST}
use Rattle.uc_model.proofs.Common.{scaled-size, sum-fits}
use Rattle.dual_model.specs.Prelude.{IsWithin, MAX_COST_TO_GO}
use Rattle.unit_path.specs.inside.Choices.{Choice, choice_cost}
use Rattle.unit_path.proofs.rests.priced_start.Goals as goal

pub sum-requires : goal.sum-requires
sum-requires c =
    let spent : unsigned_abs c.in-Some.start.cost ≤ MAX_COST_TO_GO =
    subst (λ (o : Option Choice). IsWithin MAX_COST_TO_GO (choice_cost o)) c.in-Some.is c.requires.start in
    let scale : unsigned_abs c.args.terms.now.k ≤ 10 ^ 9 = omega (arith, ints, c.requires.scale.low, c.requires.scale.high) in
    sum-fits c.scaled.result c.in-Some.start.cost (10 ^ 9 * MAX_COST) MAX_COST_TO_GO
    (scaled-size c.args.terms.now.k c.args.cost c.scaled.result (10 ^ 9) MAX_COST c.scaled.ensures scale c.requires.cost) spent (lit< tt)
