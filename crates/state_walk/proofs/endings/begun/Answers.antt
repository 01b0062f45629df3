-- The hours from the first one on, cut to what its cap and the ramps let be.
use Rattle.std.proofs.Common.{◌^◌, ◌≤◌, true, sym, ap, subst, ◌∙◌, arith, ◌+ℤ◌, ◌-ℤ◌, ◌*ℤ◌, neg_ℤ, to_z, of_z, unsigned_abs, Some}
use Rattle.std.specs.Int.{w64, w128, int_min}
use Rattle.state_walk.proofs.FirstHours.{earned-is, less-earned, low-is, most-is, none-alive, none-left, some-left}
use Rattle.hull_function.proofs.Represented.{IsCut, copied, copy-bounded, uncut-place}
use Rattle.hull_function.specs.Hours.{IsCostsOf, MAX_RUN, with_output}
use Rattle.state_walk.proofs.endings.begun.Goals as goal

pub returns-then-not-hours-clause-cost : goal.returns-then-not-hours-clause-cost
returns-then-not-hours-clause-cost c = λ table t cap behind at order is.
    let f = c.args.hours.now.function in
    none-alive table c.args.unit.now t c.args.hour.now.cap cap c.args.entry behind order f f
    (subst (λ b. IsCostsOf b f (with_output table c.args.unit.now t cap behind)) c.if-not-hours.true is)

pub cut-requires-clause-low : goal.cut-requires-clause-low
cut-requires-clause-low c = grind (arith, low-is, c)

pub cut-requires-clause-high : goal.cut-requires-clause-high
cut-requires-clause-high c =
    let most = most-is c.args.hour.now.cap c.args.entry c.args.unit.now.ru c.min-most.result c.requires.hour.cap c.requires.entry c.requires.unit.ramp_up c.min-most.ensures.value in
    subst (λ z. unsigned_abs z ≤ 10 ^ 18) (sym most.0) (let size = most.1 in omega (arith, size))

pub returns-then-not-cut-clause-cost : goal.returns-then-not-cut-clause-cost
returns-then-not-cut-clause-cost c = λ table t cap behind at order is.
    let unit = c.args.unit.now in
    let hour = c.args.hour.now in
    let f = c.args.hours.now.function in
    let g = c.copy_from.new.self in
    let low = low-is c.args.entry unit.rd c.requires.entry c.requires.unit.ramp_down in
    let most = most-is hour.cap c.args.entry unit.ru c.min-most.result c.requires.hour.cap c.requires.entry c.requires.unit.ramp_up c.min-most.ensures.value in
    let cut : IsCut g c.cut.new.self (to_z w64 (of_z w64 (to_z w64 (of_z w64 c.args.entry) -ℤ to_z w64 (of_z w64 unit.rd)))) (to_z w64 (of_z w64 c.min-most.result)) c.cut.result =
    record { there = c.cut.ensures.some; first = c.cut.ensures.first; last = c.cut.ensures.last; value = c.cut.ensures.value } in
    let own = subst (λ z. IsCut g c.cut.new.self z (int_min hour.cap (c.args.entry +ℤ unit.ru)) c.cut.result) low.0
    (subst (λ z. IsCut g c.cut.new.self (to_z w64 (of_z w64 (to_z w64 (of_z w64 c.args.entry) -ℤ to_z w64 (of_z w64 unit.rd)))) z c.cut.result) most.0 cut) in
    none-left table unit t hour.cap cap c.args.entry behind order g c.cut.new.self c.cut.result
    (copied f g c.args.cut.now.room c.copy_from.ensures true (with_output table unit t cap behind)
    (subst (λ b. IsCostsOf b f (with_output table unit t cap behind)) c.if-not-hours.false is))
    own c.if-not-cut.true

-- the function that is cut, and the product, in the last step
pub overflow_sub-result : goal.overflow_sub-result
overflow_sub-result c =
    let unit = c.args.unit.now in
    let hour = c.args.hour.now in
    let f = c.args.hours.now.function in
    let g = c.copy_from.new.self in
    let h = c.cut.new.self in
    let most = most-is hour.cap c.args.entry unit.ru c.min-most.result c.requires.hour.cap c.requires.entry c.requires.unit.ramp_up c.min-most.ensures.value in
    let earned = earned-is hour.worth (int_min hour.cap (c.args.entry +ℤ unit.ru)) (to_z w64 (of_z w64 c.min-most.result)) c.from.result c.from-2.result c.requires.hour.worth most.0 most.1
    c.from.ensures c.from-2.ensures in
    let low = to_z w64 (of_z w64 (to_z w64 (of_z w64 c.args.entry) -ℤ to_z w64 (of_z w64 unit.rd))) in
    let left = uncut-place g h low (to_z w64 (of_z w64 c.min-most.result)) c.cut.result
    (record { there = c.cut.ensures.some; first = c.cut.ensures.first; last = c.cut.ensures.last; value = c.cut.ensures.value }) c.least.result.first c.if-not-cut.false c.least.ensures.first in
    let small = copy-bounded f g c.args.cut.now.room c.copy_from.ensures MAX_RUN (c.requires.size c.if-not-hours.false) c.least.result.first left.place in
    let value : unsigned_abs c.least.result.value ≤ MAX_RUN =
    subst (λ z. unsigned_abs z ≤ MAX_RUN) (sym (c.cut.ensures.value c.if-not-cut.false c.least.result.first c.least.ensures.first) ∙ c.least.ensures.reached) small in
    (less-earned c.least.result.value (to_z w128 (of_z w128 c.from.result) *ℤ to_z w128 (of_z w128 c.from-2.result)) (hour.worth *ℤ int_min hour.cap (c.args.entry +ℤ unit.ru))
    value earned.0 earned.1).0

pub returns-clause-cost : goal.returns-clause-cost
returns-clause-cost c = λ table t cap behind at order is.
    let unit = c.args.unit.now in
    let hour = c.args.hour.now in
    let f = c.args.hours.now.function in
    let g = c.copy_from.new.self in
    let h = c.cut.new.self in
    let entry = c.args.entry in
    let low = low-is entry unit.rd c.requires.entry c.requires.unit.ramp_down in
    let most = most-is hour.cap entry unit.ru c.min-most.result c.requires.hour.cap c.requires.entry c.requires.unit.ramp_up c.min-most.ensures.value in
    let limit = int_min hour.cap (entry +ℤ unit.ru) in
    let earned = earned-is hour.worth limit (to_z w64 (of_z w64 c.min-most.result)) c.from.result c.from-2.result c.requires.hour.worth most.0 most.1
    c.from.ensures c.from-2.ensures in
    let begin = to_z w64 (of_z w64 (to_z w64 (of_z w64 entry) -ℤ to_z w64 (of_z w64 unit.rd))) in
    let cut : IsCut g h begin (to_z w64 (of_z w64 c.min-most.result)) c.cut.result =
    record { there = c.cut.ensures.some; first = c.cut.ensures.first; last = c.cut.ensures.last; value = c.cut.ensures.value } in
    let own = subst (λ z. IsCut g h z limit c.cut.result) low.0 (subst (λ z. IsCut g h begin z c.cut.result) most.0 cut) in
    let left = uncut-place g h begin (to_z w64 (of_z w64 c.min-most.result)) c.cut.result cut c.least.result.first c.if-not-cut.false c.least.ensures.first in
    let small = copy-bounded f g c.args.cut.now.room c.copy_from.ensures MAX_RUN (c.requires.size c.if-not-hours.false) c.least.result.first left.place in
    let value : unsigned_abs c.least.result.value ≤ MAX_RUN =
    subst (λ z. unsigned_abs z ≤ MAX_RUN) (sym (c.cut.ensures.value c.if-not-cut.false c.least.result.first c.least.ensures.first) ∙ c.least.ensures.reached) small in
    let less = less-earned c.least.result.value (to_z w128 (of_z w128 c.from.result) *ℤ to_z w128 (of_z w128 c.from-2.result)) (hour.worth *ℤ limit) value earned.0 earned.1 in
    ap Some less.1
    ∙ some-left table unit t hour.cap cap entry behind order g h c.cut.result c.least.result.first c.least.result.value (hour.worth *ℤ limit)
    (copied f g c.args.cut.now.room c.copy_from.ensures true (with_output table unit t cap behind)
    (subst (λ b. IsCostsOf b f (with_output table unit t cap behind)) c.if-not-hours.false is))
    own c.if-not-cut.false c.least.ensures.first c.least.ensures.reached c.least.ensures.least (λ i. neg_ℤ (at.worth i *ℤ limit))
