-- A level run from a point on is as high as the point.
use Rattle.std.proofs.Common.{◌≡◌, lit<, ◌*◌, ap, ◌∙◌, arith, pos, ◌+ℤ◌, ◌-ℤ◌, unsigned_abs}
use Rattle.uc_model.proofs.Common.{linear, mul-zero, abs_is, narrow}
use Rattle.step_functions.specs.Functions.{Steps, last_place, value_at}
use Rattle.state_walk.specs.inside.Problems.{MAX_POWER}
use Rattle.state_walk.proofs.rest.set_level.Goals as goal

pub returns-then-low-high-clause-value : goal.returns-then-low-high-clause-value
returns-then-low-high-clause-value c = λ p place.
    let f = c.set_point.new.self in
    let g = c.extend.new.self in
    let begins = ap (λ (h : Steps). h.first) c.set_point.ensures.point in
    let first = c.extend.ensures.first in
    let last = c.set_point.ensures.last in
    let low = place.low in
    let high = place.high in
    let end = c.extend.ensures.last in
    let own = narrow c.args.low (2 * MAX_POWER) c.requires.low (lit< tt) in
    let size = abs_is (p -ℤ c.args.low) (omega (arith, linear, begins, first, low, own)) in
    let k = unsigned_abs (p -ℤ c.args.low) in
    let here : p ≡ last_place f +ℤ pos k = omega (arith, linear, last, size, own) in
    let after = c.extend.ensures.after k (omega (arith, linear, here, high, end)) in
    let none = mul-zero (pos k) in
    let value = ap (value_at f) last ∙ c.set_point.ensures.value in
    let moved = ap (value_at g) here in
    omega (arith, linear, moved, after, none, value)
