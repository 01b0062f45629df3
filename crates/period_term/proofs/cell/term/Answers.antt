-- The corners are those that the curve shows, and the numbers are what their bits say.
use Rattle.std.proofs.Common.{sym, subst}
use Rattle.std.specs.Int.{w64}
use Rattle.std.proofs.lemmas.Int.{to_z-of_z}
use Rattle.dual_model.specs.Prelude.{IsCellTerm}
use Rattle.cost_curves.specs.LowerHull.{IsLowerHull}
use Rattle.period_term.proofs.FreedTerms.{freed_bits, of_freed}
use Rattle.period_term.proofs.cell.term.Goals as goal

pub returns-clause-term : goal.returns-clause-term
returns-clause-term c = λ points hull.
    let prices = c.freed-prices.result in
    let freed = freed_bits c.args.k c.args.a c.args.b prices.k prices.a prices.b c.ranges.k c.ranges.a c.ranges.b c.freed-prices.ensures.freed in
    of_freed points c.args.k c.args.a c.args.b c.args.cap prices.k prices.a prices.b c.cell_term.result freed
    (λ x y own. subst (λ z. IsCellTerm points prices.k x y z c.cell_term.result) (to_z-of_z w64 c.args.cap c.ranges.cap)
    (c.cell_term.ensures.term points x y (subst (λ xs. IsLowerHull points xs) (sym c.corners-corners.ensures.value) hull) own))
