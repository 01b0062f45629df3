-- The values from 4 down to 0 and up to 3.
use Rattle.std.proofs.Common.{◌≡◌, ap, ◌∙◌, arith, pos, negsuc, ◌+ℤ◌, ◌*ℤ◌}
use Rattle.std.proofs.lemmas.Int.{ints}
use Rattle.step_functions.specs.Functions.{Steps, last_place, value_at}
use Rattle.step_functions.proofs.Extended.{alone-size, continued-size}
use Rattle.model_tests.proofs.functions.bent.Goals as goal

pub returns-clause-small : goal.returns-clause-small
returns-clause-small c =
    let f = c.set_point.new.self in
    let g = c.extend.new.self in
    let first = ap (λ (h : Steps). h.first) c.set_point.ensures.point in
    let last = c.set_point.ensures.last in
    let value : value_at f (negsuc 1) ≡ pos 4 = c.set_point.ensures.value in
    let end = ap (value_at f) last ∙ value in
    let middle : value_at g (last_place g) ≡ value_at f (last_place f) +ℤ pos 2 *ℤ negsuc 1 =
    ap (value_at g) c.extend.ensures.last ∙ c.extend.ensures.after 2 (omega arith) in
    continued-size g c.extend-2.new.self 3 (pos 1) 10 c.extend-2.ensures.first c.extend-2.ensures.last c.extend-2.ensures.before c.extend-2.ensures.after
    (continued-size f g 2 (negsuc 1) 10 c.extend.ensures.first c.extend.ensures.last c.extend.ensures.before c.extend.ensures.after
    (alone-size f (negsuc 1) (pos 4) 10 first last value (omega arith)) (λ k h. omega (arith, ints, end, h)))
    (λ k h. omega (arith, ints, middle, end, h))
