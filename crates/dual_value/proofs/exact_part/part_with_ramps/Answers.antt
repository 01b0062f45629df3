-- The greater of both, or what is added where ramps are priced where a schedule shows that the exact value is no greater.
use Rattle.std.proofs.Common.{◌≡◌, ◌≤◌, lit<, refl, true, ap, ◌∙◌, arith, ℤ, pos, ◌+ℤ◌, ◌≤ℤ◌, int_lt, to_z, of_z, unsigned_abs, if◌then◌else◌}
use Rattle.std.specs.Int.{w128}
use Rattle.std.specs.Int.Signed.{le_z}
use Rattle.std.proofs.lemmas.Int.{ints}
use Rattle.uc_model.proofs.Sizes.{wide}
use Rattle.ramp_duals.specs.Sizes.{MAX_CONSTANT}
use Rattle.unit_exact.specs.Sizes.{MAX_EXACT}
use Rattle.dual_value.specs.NodeAnswer.{MAX_PART}
use Rattle.dual_value.proofs.ExactParts.{part-greater, part-within}
use Rattle.dual_value.proofs.exact_part.part_with_ramps.Goals as goal

sign : (constant other : ℤ) → unsigned_abs constant ≤ MAX_CONSTANT → constant ≡ other → le_z (pos 0) (to_z w128 (of_z w128 constant)) ≡ true → pos 0 ≤ℤ other
sign constant other size same test = grind (arith, ints, size, same, test)

pub returns-then-keeps_ramps-clause-part : goal.returns-then-keeps_ramps-clause-part
returns-then-keeps_ramps-clause-part c = λ node fix best.
    let instance = c.args.instance.now in
    let table = c.args.table.now in
    let g = c.args.g in
    let pattern = c.args.priced.now.plain.pattern.now in
    let own = wide c.part-part.result MAX_PART c.part-part.ensures.size (lit< tt) in
    let is = own ∙ c.part-part.ensures.value ∙ ap (λ z. c.args.priced.now.value +ℤ z) c.requires.constant in
    part-within instance node table g c.args.priced.now.value _ pattern best is c.requires.lawful c.requires.unit
    (sign c.args.priced.now.constant _ c.requires.numbers.constant c.requires.constant c.if-priced-ge0.true)
    (c.if-keeps_ramps.ensures.within node best.pattern refl)

pub returns-in-None-clause-fault : goal.returns-in-None-clause-fault
returns-in-None-clause-fault c = λ node fix. (refl, c.in-None.ensures.none node fix refl)

pub returns-in-Some-clause-part : goal.returns-in-Some-clause-part
returns-in-Some-clause-part c = λ node fix best.
    let instance = c.args.instance.now in
    let table = c.args.table.now in
    let g = c.args.g in
    let pattern = c.args.priced.now.plain.pattern.now in
    let part = wide c.part-part.result MAX_PART c.part-part.ensures.size (lit< tt) in
    let value = wide c.in-Some.value MAX_EXACT c.in-Some.ensures.size (lit< tt) in
    let is = c.part-part.ensures.value ∙ ap (λ z. c.args.priced.now.value +ℤ z) c.requires.constant in
    part-greater instance node table g c.args.priced.now.value c.part-part.result pattern best is c.in-Some.value c.in-Some.pattern (c.in-Some.ensures.value node fix)
    (c.in-Some.ensures.pattern node fix) c.in-Some.ensures.attained c.greater.result
    (c.greater.ensures ∙ (λ i. if int_lt (part i) (value i) then (value i, c.in-Some.pattern) else (part i, pattern)))
