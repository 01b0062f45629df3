-- The least value says whether it holds; where there is none the scale is another.
use Rattle.std.proofs.Common.{arith, ◌≡◌, ℤ, Option, Some, MatchOption, subst}
use Rattle.leaf_values.specs.declared.least.Least.{Least}
use Rattle.cert_check.specs.inside.Leaves.{Claim, FitsScale, IsLeastFor}
use Rattle.cert_check.proofs.LeafNumbers.{holds-by-least}
use Rattle.cert_check.proofs.leaf.Leaves.holds.Goals as goal

-- what is told of a least value that is there, and of none
of-some : (k : ℤ) (claim : Claim) (answer : Option Least) (least : Least) → MatchOption answer (¬ FitsScale k claim) (IsLeastFor k claim) → answer ≡ Some least
    → IsLeastFor k claim least
of-some k claim answer least told is = subst (λ o. MatchOption o (¬ FitsScale k claim) (IsLeastFor k claim)) is told

pub reaches-requires-clause-scale : goal.reaches-requires-clause-scale
reaches-requires-clause-scale c = grind (arith, c)

pub returns-in-Some-clause-holds : goal.returns-in-Some-clause-holds
returns-in-Some-clause-holds c = λ place are.
    let question = c.args.question.now in
    holds-by-least question.exact c.args.instance.now place c.args.table.now question.claim c.in-Some.least c.reaches.result
    (of-some c.args.table.now.k question.claim c.least_for.result c.in-Some.least c.least_for.ensures c.in-Some.is)
    (c.reaches.ensures.reaches place are)

pub returns-in-None-clause-holds : goal.returns-in-None-clause-holds
returns-in-None-clause-holds c = grind (arith, c)
