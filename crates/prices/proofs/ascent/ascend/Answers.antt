-- The table is at the scale that was asked for: that of the ascent that ended.
use Rattle.std.proofs.Common.{◌≡◌, ◌≤◌, ◌^◌, lit<, IfOk, subst, arith, unsigned_abs}
use Rattle.std.proofs.lemmas.Int.{ints}
use Rattle.uc_model.proofs.Common.{narrow}
use Rattle.prices.proofs.ascent.ascend.Goals as goal

pub returns-clause-scale : goal.returns-clause-scale
returns-clause-scale c =
    let scale = c.args.plan.scale in
    let size : unsigned_abs scale ≤ 10 ^ 9 = omega (arith, ints, c.requires.scale.low, c.requires.scale.high) in
    subst (λ z. IfOk c.ended.result (λ ascent. ascent.table.k ≡ z)) (narrow scale (10 ^ 9) size (lit< tt)) c.ended.ensures.scale
