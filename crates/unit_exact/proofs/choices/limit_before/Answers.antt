-- The best known less what follows.
use Rattle.std.proofs.Common.{◌≡◌, ◌≤◌, ap, subst, arith, ℤ, ◌-ℤ◌, unsigned_abs, Option, Some, IfSome}
use Rattle.std.proofs.lemmas.Int.{ints}
use Rattle.uc_model.proofs.Common.{linear}
use Rattle.dual_model.specs.Prelude.{total_of}
use Rattle.dual_model.proofs.Optimum.{total_of-parts}
use Rattle.unit_exact.specs.inside.Choices.{Choice, choice_cost, IsReached}
use Rattle.unit_exact.specs.inside.Problems.{MAX_WAY}
use Rattle.unit_exact.proofs.choices.limit_before.Goals as goal

limited : (known behind : Option Choice) (best next : Choice) (limit : ℤ) → known ≡ Some best → behind ≡ Some next → limit ≡ best.cost -ℤ next.cost
    → (cost : Option ℤ) → IsReached (Some limit) cost → IsReached (choice_cost known) (total_of cost (choice_cost behind))
limited known behind best next limit e d is cost reached v h =
    let parts = total_of-parts cost (choice_cost behind) v h in
    let found = reached parts.first parts.first_is in
    let at : limit ≡ found.0 = (let same = found.1 in cc) in
    let follows : parts.second ≡ next.cost = (let second = parts.second_is in let there = ap choice_cost d in cc) in
    let total = parts.total in
    let below = found.2 in
    (best.cost, ap choice_cost e, omega (arith, linear, is, at, follows, total, below))

pub returns-in-Some-Some : goal.returns-in-Some-Some
returns-in-Some-Some c =
    let best : unsigned_abs c.in-Some-Some.best.cost ≤ MAX_WAY = subst (λ o. IfSome o (λ choice. unsigned_abs choice.cost ≤ MAX_WAY)) c.in-Some-Some.is-0 c.requires.best in
    let next : unsigned_abs c.in-Some-Some.next.cost ≤ MAX_WAY = subst (λ o. IfSome o (λ choice. unsigned_abs choice.cost ≤ MAX_WAY)) c.in-Some-Some.is-1 c.requires.next in
    limited c.args.best.now c.args.next.now c.in-Some-Some.best c.in-Some-Some.next _ c.in-Some-Some.is-0 c.in-Some-Some.is-1 (omega (arith, ints, best, next))
