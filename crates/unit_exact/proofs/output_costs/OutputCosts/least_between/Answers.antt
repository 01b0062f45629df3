-- The least of the values that are left.
use Rattle.std.proofs.Common.{lit<, ◌*◌, ◌≤◌, rules, sym, ap, subst, ◌∙◌, to_z, of_z, unsigned_abs, Some}
use mir.Val.{SFits}
use Rattle.std.specs.Int.{w64, w128}
use Rattle.std.proofs.lemmas.Int.{to_z-of_z}
use Rattle.uc_model.proofs.Common.{narrow}
use Rattle.unit_exact.proofs.LeastLeft.{none-alive, none-left, least-size, least-some}
use Rattle.hull_function.proofs.Represented.{cut-between}
use Rattle.hull_function.specs.Hours.{IsCostsOf}
use Rattle.hull_function.specs.Problems.{MAX_POWER}
use Rattle.unit_exact.proofs.output_costs.OutputCosts.least_between.Goals as goal
use Rattle.unit_exact.proofs.output_costs.OutputCosts.least_between.Goals.{else-self-via-then-self+else-cut, else-self-via-else-self}

pub returns-then-cut-clause-least : goal.returns-then-cut-clause-least
returns-then-cut-clause-least c =
    let f = c.args.self.now.function in
    let g = c.cut.new.self in
    let low = narrow c.args.low (2 * MAX_POWER) c.requires.low (lit< tt) in
    let high = narrow c.args.high (2 * MAX_POWER) c.requires.high (lit< tt) in
    let cut = cut-between f g (to_z w64 (of_z w64 c.args.low)) (to_z w64 (of_z w64 c.args.high)) c.args.low c.args.high c.cut.result low high
    (record { there = c.cut.ensures.some; first = c.cut.ensures.first; last = c.cut.ensures.last; value = c.cut.ensures.value }) in
    let fits : SFits w128 c.least.result.value = search rules in
    λ cost is. ap Some (to_z-of_z w128 c.least.result.value fits)
    ∙ least-some f g c.args.low c.args.high c.cut.result cut cost c.least.result.value c.least.result.first
    (subst (λ b. IsCostsOf b f cost) c.if-self.true is) c.if-cut.true c.least.ensures.first c.least.ensures.reached c.least.ensures.least

pub returns-then-cut-clause-size : goal.returns-then-cut-clause-size
returns-then-cut-clause-size c =
    let f = c.args.self.now.function in
    let g = c.cut.new.self in
    let low = narrow c.args.low (2 * MAX_POWER) c.requires.low (lit< tt) in
    let high = narrow c.args.high (2 * MAX_POWER) c.requires.high (lit< tt) in
    let cut = cut-between f g (to_z w64 (of_z w64 c.args.low)) (to_z w64 (of_z w64 c.args.high)) c.args.low c.args.high c.cut.result low high
    (record { there = c.cut.ensures.some; first = c.cut.ensures.first; last = c.cut.ensures.last; value = c.cut.ensures.value }) in
    let fits : SFits w128 c.least.result.value = search rules in
    λ size small. subst (λ z. unsigned_abs z ≤ size) (sym (to_z-of_z w128 c.least.result.value fits))
    (least-size f g c.args.low c.args.high c.cut.result cut c.least.result.value c.least.result.first size c.if-cut.true c.least.ensures.first
    c.least.ensures.reached (small c.if-self.true))

pub returns-else-self-clause-least : goal.returns-else-self-clause-least
returns-else-self-clause-least c = elim c.else-self.branch [
  | else-self-via-then-self+else-cut w ↦
      let f = c.args.self.now.function in
      let g = w.cut.new.self in
      let low = narrow c.args.low (2 * MAX_POWER) c.requires.low (lit< tt) in
      let high = narrow c.args.high (2 * MAX_POWER) c.requires.high (lit< tt) in
      let cut = cut-between f g (to_z w64 (of_z w64 c.args.low)) (to_z w64 (of_z w64 c.args.high)) c.args.low c.args.high w.cut.result low high
      (record { there = w.cut.ensures.some; first = w.cut.ensures.first; last = w.cut.ensures.last; value = w.cut.ensures.value }) in
      λ cost is. none-left f g c.args.low c.args.high w.cut.result cut cost (subst (λ b. IsCostsOf b f cost) w.if-self.true is) w.if-cut.false
  | else-self-via-else-self w ↦
      λ cost is. none-alive c.args.self.now.function c.args.low c.args.high cost (subst (λ b. IsCostsOf b c.args.self.now.function cost) w.if-self.false is)
]
