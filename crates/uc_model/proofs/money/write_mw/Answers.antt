-- The size of an `i64` has at most 13 digits before its six decimals.
use Rattle.std.proofs.Common.{length, ap, ◌∙◌, arith, to_z-of_z, rules, FitsSigned}
use Rattle.std.specs.Int.{w128}
use Rattle.std.proofs.lemmas.Int.{ints}
use Rattle.uc_model.specs.Money.{money_text}
use Rattle.uc_model.proofs.MoneyText.{length-money_text-le}
use Rattle.uc_model.proofs.money.write_mw.Goals as goal

pub returns-clause-short : goal.returns-clause-short
returns-clause-short c =
    let fits = c.ranges.n in
    let wide : FitsSigned w128 c.from.result = search rules in
    let from = simp to_z-of_z at c.from.ensures in
    let text = simp to_z-of_z at c.write_money.ensures.length in
    omega (arith, text ∙ ap (λ n. length (money_text n)) from, length-money_text-le 13 c.args.n (omega arith) (omega (arith, ints)))
