-- The number is as small as its size says.
use Rattle.std.proofs.Common.{sym, subst, lit<}
use Rattle.std.proofs.lemmas.Int.{to_z-of_z}
use Rattle.uc_model.proofs.Sizes.{wide}
use Rattle.dual_model.specs.Prelude.{IsTerm}
use Rattle.uc_model.specs.declared.limits.TheConstants.{MAX_TERM}
use Rattle.period_term.proofs.cell.cell_term.Goals as goal

pub returns-clause-term : goal.returns-clause-term
returns-clause-term c = λ points a b hull freed.
    let cap = c.ranges.cap in
    subst (λ z. IsTerm points c.args.prices.now.k a b c.args.cap z) (sym (wide c.reserved.result MAX_TERM c.reserved.ensures.size (lit< tt)))
    (simp to_z-of_z at (c.reserved.ensures.term points a b hull freed))
