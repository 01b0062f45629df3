-- The products, taken away from nothing.
use Rattle.std.proofs.Common.{rules, FitsSigned, ◌^◌, ◌≤◌, ◌∙◌, lit<, arith, pos, unsigned_abs}
use Rattle.std.specs.Int.{w64}
use Rattle.std.proofs.lemmas.Int.{ints, to_z-of_z}
use Rattle.uc_model.proofs.Common.{difference-is, difference-size, sum-is, sum-size, wide-size}
use Rattle.uc_model.proofs.Sizes.{wide}
use Rattle.ramp_duals.proofs.unit_constant.ramp_part.Goals as goal

pub returns-clause-value : goal.returns-clause-value
returns-clause-value c =
    let size : unsigned_abs c.sum.result ≤ 2 ^ 108 =
    sum-size c.priced-rise.result c.priced-fall.result c.sum.result (2 ^ 107) (2 ^ 107) c.sum.ensures c.priced-rise.ensures.size c.priced-fall.ensures.size in
    let both = sum-is c.priced-rise.result c.priced-fall.result c.sum.result (2 ^ 107) (2 ^ 107) c.sum.ensures c.priced-rise.ensures.size c.priced-fall.ensures.size (lit< tt) in
    let all = difference-is (pos 0) c.sum.result c.difference.result 0 (2 ^ 108) c.difference.ensures (omega arith) size (lit< tt) in
    let all_size = difference-size (pos 0) c.sum.result c.difference.result 0 (2 ^ 108) c.difference.ensures (omega arith) size in
    let up : FitsSigned w64 c.args.now.now.up = search rules in
    let down : FitsSigned w64 c.args.now.now.down = search rules in
    let ru : FitsSigned w64 c.args.unit.now.ru = search rules in
    let rd : FitsSigned w64 c.args.unit.now.rd = search rules in
    wide c.difference.result (2 ^ 108) all_size (lit< tt)
    ∙ (omega (arith, ints, simp to_z-of_z at c.priced-rise.ensures.value, simp to_z-of_z at c.priced-fall.ensures.value))

pub returns-clause-size : goal.returns-clause-size
returns-clause-size c =
    let size : unsigned_abs c.sum.result ≤ 2 ^ 108 =
    sum-size c.priced-rise.result c.priced-fall.result c.sum.result (2 ^ 107) (2 ^ 107) c.sum.ensures c.priced-rise.ensures.size c.priced-fall.ensures.size in
    wide-size c.difference.result (2 ^ 108) (difference-size (pos 0) c.sum.result c.difference.result 0 (2 ^ 108) c.difference.ensures (omega arith) size)
