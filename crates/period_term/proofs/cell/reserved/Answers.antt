-- The least cost, and the price of all the room as reserve.
use Rattle.std.proofs.Common.{◌≡◌, ◌+◌, ◌*◌, ◌≤◌, sym, subst, ap, ◌∙◌, arith, lit<, to_z, of_z, ◌+ℤ◌, ◌*ℤ◌, unsigned_abs}
use Rattle.std.specs.Int.{w128}
use Rattle.std.proofs.lemmas.Int.{to_z-of_z}
use Rattle.uc_model.proofs.Common.{narrow, from-size, sum-fits}
use Rattle.dual_model.specs.Prelude.{IsTerm}
use Rattle.dual_model.specs.declared.limits.TheConstants.{MAX_UNIT_PRICE, MAX_CAP}
use Rattle.period_term.specs.inside.Places.{MAX_LEAST}
use Rattle.period_term.proofs.CornerNumbers.{product_is, sum_is}
use Rattle.period_term.proofs.FreedTerms.{freed_term}
use Rattle.period_term.proofs.cell.reserved.Goals as goal

pub sum-requires : goal.sum-requires
sum-requires c =
    let cap = from-size c.args.cap c.from.result MAX_CAP c.from.ensures c.requires.cap in
    let price = product_is c.args.prices.now.b c.from.result c.product-reserve.result MAX_UNIT_PRICE MAX_CAP c.product-reserve.ensures c.requires.prices.reserve cap (lit< tt) (lit< tt) in
    sum-fits c.least_cost.result c.product-reserve.result MAX_LEAST (MAX_UNIT_PRICE * MAX_CAP) c.least_cost.ensures.size price.1 (lit< tt)

whole : (c : goal.After-sum) → (to_z w128 (of_z w128 c.sum.result) ≡ c.least_cost.result +ℤ c.args.prices.now.b *ℤ c.args.cap)
    × (unsigned_abs (to_z w128 (of_z w128 c.sum.result)) ≤ MAX_LEAST + MAX_UNIT_PRICE * MAX_CAP)
whole c =
    let cap = from-size c.args.cap c.from.result MAX_CAP c.from.ensures c.requires.cap in
    let price = product_is c.args.prices.now.b c.from.result c.product-reserve.result MAX_UNIT_PRICE MAX_CAP c.product-reserve.ensures c.requires.prices.reserve cap (lit< tt) (lit< tt) in
    let both = sum_is c.least_cost.result c.product-reserve.result c.sum.result MAX_LEAST (MAX_UNIT_PRICE * MAX_CAP) c.sum.ensures c.least_cost.ensures.size price.1 (lit< tt) in
    (both.0 ∙ ap (λ z. c.least_cost.result +ℤ z) (price.0 ∙ ap (λ z. c.args.prices.now.b *ℤ z) (c.from.ensures ∙ narrow c.args.cap MAX_CAP c.requires.cap (lit< tt))), both.1)

pub returns-clause-size : goal.returns-clause-size
returns-clause-size c = let size = (whole c).1 in omega (arith, size)

pub returns-clause-term : goal.returns-clause-term
returns-clause-term c = λ points a b hull freed.
    let cap = c.ranges.cap in
    subst (λ z. IsTerm points c.args.prices.now.k a b c.args.cap z) (sym (whole c).0)
    (freed_term points c.args.prices.now.k a b c.args.cap c.args.prices.now.a c.args.prices.now.b c.least_cost.result freed (simp to_z-of_z at (c.least_cost.ensures.term points hull)))
