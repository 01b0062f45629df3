-- The text is the minus and the size.
use Rattle.std.proofs.Common.{◌+◌, ◌/◌, ◌<◌, ◌^◌, ◌++◌, length, unsigned_abs, sym, ◌∙◌, arith, to_z-of_z, length-append}
use Rattle.uc_model.specs.Decimal.{minus_text}
use Rattle.uc_model.specs.Money.{millionths_text, money_text}
use Rattle.uc_model.proofs.MoneyText.{length-money_text-le}
use Rattle.uc_model.proofs.money.write_money.Goals as goal

pub returns-clause-length : goal.returns-clause-length
unfolding money_text
returns-clause-length c =
    let fits = c.ranges.n in
    let minus = simp to_z-of_z at c.write_minus-start.ensures.length in
    let size = simp to_z-of_z at c.unsigned_abs.ensures.value in
    c.write_millionths.ensures.length ∙ (λ i. minus i + length (millionths_text (size i)))
    ∙ sym (length-append (minus_text c.args.n) (millionths_text (unsigned_abs c.args.n)))

pub returns-clause-text : goal.returns-clause-text
unfolding money_text
returns-clause-text c =
    let fits = c.ranges.n in
    let minus = simp to_z-of_z at c.write_minus-start.ensures.text in
    let size = simp to_z-of_z at c.unsigned_abs.ensures.value in
    c.write_millionths.ensures.text ∙ (λ i. minus i ++ millionths_text (size i))

pub returns-clause-short : goal.returns-clause-short
returns-clause-short c =
    let fits = c.ranges.n in
    let size = simp to_z-of_z at c.unsigned_abs.ensures.value in
    let small : unsigned_abs c.args.n / 1000000 < 10 ^ 33 = omega (arith, c.unsigned_abs.ensures.bound) in
    omega (arith, returns-clause-length c, length-money_text-le 33 c.args.n (omega arith) small)
