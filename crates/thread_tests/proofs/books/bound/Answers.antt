-- The bound is the quotient of the value.
use Rattle.std.proofs.Common.{◌≡◌, ◌∙◌, FitsSigned, arith, sym, subst, ℤ, to_z, of_z}
use Rattle.std.specs.Int.{w64, w128}
use Rattle.std.proofs.lemmas.Int.{to_z-of_z}
use Rattle.uc_model.specs.Prelude.{IsFloor}
use Rattle.dual_model.specs.declared.node.Node.{Node}
use Rattle.dual_model.specs.Prelude.{IsNodeValue}
use Rattle.thread_tests.proofs.books.bound.Goals as goal

pub returns-in-Ok : goal.returns-in-Ok
returns-in-Ok c =
    let total = c.in-Ok.valued.total in
    let k = c.args.table.now.k in
    let scale : to_z w128 (of_z w128 c.from.result) ≡ k =
    to_z-of_z w128 c.from.result (record { sfits = c.from.type_inv }) ∙ c.from.ensures
    ∙ to_z-of_z w64 c.k.result (record { sfits = c.k.type_inv }) ∙ c.k.ensures in
    let fits : FitsSigned w128 total = record { sfits = omega (arith, c.in-Ok.ensures.value.size) } in
    let quotient = to_z-of_z w128 c.floor_div.result (record { sfits = c.floor_div.type_inv }) in
    let is : IsFloor total k c.floor_div.result =
    subst (λ (z : ℤ). IsFloor z k c.floor_div.result) (to_z-of_z w128 total fits)
    (subst (λ (z : ℤ). IsFloor (to_z w128 (of_z w128 total)) z c.floor_div.result) scale c.floor_div.ensures) in
    record {
      value = total;
      is_value = subst (λ (node : Node). IsNodeValue c.args.instance.now node c.args.table.now total) c.root-root.ensures c.in-Ok.ensures.value.total;
      quotient = subst (IsFloor total k) (sym quotient) is;
    }
