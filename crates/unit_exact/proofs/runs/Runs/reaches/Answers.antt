-- A limit that is there.
use Rattle.std.proofs.Common.{◌≡◌, rules, sym, ap, subst, ◌∙◌, ℤ, Option, Some}
use mir.Val.{SFits}
use Rattle.std.specs.Int.{w128}
use Rattle.std.proofs.lemmas.Int.{to_z-of_z}
use Rattle.unit_exact.specs.inside.Choices.{IsReached}
use Rattle.unit_exact.proofs.runs.Runs.reaches.Goals as goal

of-limit : (limit cost : Option ℤ) (l own : ℤ) → limit ≡ Some l → own ≡ l → IsReached (Some own) cost → IsReached limit cost
of-limit limit cost l own is same reached = subst (λ o. IsReached o cost) (ap Some same ∙ sym is) reached

pub returns-in-Some : goal.returns-in-Some
returns-in-Some c = λ yes.
    let fits : SFits w128 c.in-Some.limit = search rules in
    of-limit c.args.limit.now _ c.in-Some.limit _ c.in-Some.is (to_z-of_z w128 c.in-Some.limit fits) (c.costs_at_least.ensures yes)
