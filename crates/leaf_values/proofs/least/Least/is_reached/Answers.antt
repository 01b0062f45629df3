-- The quotient of the value is as many times the scale or more exactly where the value is.
use Rattle.std.proofs.Common.{◌≡◌, rules, ◌↔◌, ◌∙◌, ℤ, pos, ◌*ℤ◌, ◌<ℤ◌, ◌≤ℤ◌, IsTrue, int_le, subst, sym, arith, to_z, of_z, FitsSigned}
use Rattle.std.specs.Int.{w64, w128}
use Rattle.std.proofs.lemmas.Int.{to_z-of_z}
use Rattle.uc_model.specs.Prelude.{IsFloor}
use Rattle.uc_model.proofs.Common.{IsFloor-greatest, linear, mul-le-mul_right, int_le-true, le-int_le}
use Rattle.leaf_values.proofs.least.Least.is_reached.Goals as goal

-- the test of both numbers, each as it is read back
told : (k value times floor shown_times shown_floor : ℤ) → pos 0 <ℤ k → IsFloor value k floor → shown_times ≡ times → shown_floor ≡ floor
    → IsTrue (int_le shown_times shown_floor) ↔ ((times *ℤ k) ≤ℤ value)
told k value times floor shown_times shown_floor positive is t f = (
  (λ said.
      let most : times ≤ℤ floor = subst (λ z. z ≤ℤ floor) t (subst (λ z. shown_times ≤ℤ z) f (int_le-true shown_times shown_floor said)) in
      let product = mul-le-mul_right k times floor (let h = positive in omega (arith, linear, h)) most in
      let below = is.below in
      omega (arith, linear, product, below)),
  (λ reached. le-int_le shown_times shown_floor
      (subst (λ z. z ≤ℤ shown_floor) (sym t) (subst (λ z. times ≤ℤ z) (sym f) (IsFloor-greatest value k floor times positive is reached)))),
)

pub returns : goal.returns
returns c =
    let least = c.args.self.now in
    let scale_fits : FitsSigned w64 least.scale = search rules in
    let times_fits : FitsSigned w128 least.times = search rules in
    let scale : to_z w128 (of_z w128 c.from.result) ≡ least.scale =
    to_z-of_z w128 c.from.result (record { sfits = c.from.type_inv }) ∙ c.from.ensures ∙ to_z-of_z w64 least.scale scale_fits in
    let value = to_z-of_z w128 c.args.value c.ranges.value in
    let is : IsFloor c.args.value least.scale c.floor_div.result =
    subst (λ (z : ℤ). IsFloor z least.scale c.floor_div.result) value
    (subst (λ (z : ℤ). IsFloor (to_z w128 (of_z w128 c.args.value)) z c.floor_div.result) scale c.floor_div.ensures) in
    told least.scale c.args.value least.times c.floor_div.result _ _ c.requires is
    (to_z-of_z w128 least.times times_fits) (to_z-of_z w128 c.floor_div.result (record { sfits = c.floor_div.type_inv }))
