-- There is one floor, and it is the Euclidean quotient.
use Rattle.std.proofs.Common.{◌≡◌, ap, ◌∙◌, subst, ℤ, to_z, of_z}
use Rattle.std.specs.Int.{w64, w128}
use Rattle.std.proofs.lemmas.Int.{to_z-of_z}
use Rattle.uc_model.specs.Prelude.{IsFloor}
use Rattle.uc_model.proofs.Common.{IsFloor_unique, IsFloor-int_div_euclid}
use Rattle.search_machine.specs.Prelude.{bound_of}
use Rattle.search_machine.specs.declared.stored.Stored.{Stored}
use Rattle.search_machine.proofs.stored.offered.Goals as goal

pub returns : goal.returns
returns c =
    let scale : to_z w128 (of_z w128 c.from.result) ≡ c.args.scale =
    to_z-of_z w128 c.from.result (record { sfits = c.from.type_inv }) ∙ c.from.ensures ∙ to_z-of_z w64 c.args.scale c.ranges.scale in
    let value = to_z-of_z w128 c.args.value c.ranges.value in
    let quotient = to_z-of_z w128 c.floor_div.result (record { sfits = c.floor_div.type_inv }) in
    let is : IsFloor c.args.value c.args.scale c.floor_div.result =
    subst (λ (z : ℤ). IsFloor z c.args.scale c.floor_div.result) value
    (subst (λ (z : ℤ). IsFloor (to_z w128 (of_z w128 c.args.value)) z c.floor_div.result) scale c.floor_div.ensures) in
    let one : c.floor_div.result ≡ bound_of c.args.value c.args.scale =
    IsFloor_unique c.args.value c.args.scale c.floor_div.result (bound_of c.args.value c.args.scale) c.requires is
    (IsFloor-int_div_euclid c.args.value c.args.scale c.requires) in
    ap (λ (z : ℤ). let stored : Stored = record { table = c.args.table; value = z; exact = c.args.exact } in stored) (quotient ∙ one)
