-- The values from 5 down to 0.
use Rattle.std.proofs.Common.{◌≡◌, ap, ◌∙◌, arith, pos, negsuc}
use Rattle.std.proofs.lemmas.Int.{ints}
use Rattle.step_functions.specs.Functions.{Steps, value_at}
use Rattle.step_functions.proofs.Extended.{alone-size, continued-size}
use Rattle.model_tests.proofs.functions.falling.Goals as goal

pub returns-clause-small : goal.returns-clause-small
returns-clause-small c =
    let f = c.set_point.new.self in
    let first = ap (λ (h : Steps). h.first) c.set_point.ensures.point in
    let last = c.set_point.ensures.last in
    let value : value_at f (pos 0) ≡ pos 5 = c.set_point.ensures.value in
    let end = ap (value_at f) last ∙ value in
    continued-size f c.extend.new.self 5 (negsuc 0) 10 c.extend.ensures.first c.extend.ensures.last c.extend.ensures.before c.extend.ensures.after
    (alone-size f (pos 0) (pos 5) 10 first last value (omega arith)) (λ k h. omega (arith, ints, end, h))
