-- Values of nodes by computing them.
use Rattle.std.proofs.Common.{arith, ◌≡◌, ℕ, length, ℤ, Bool, ◌&&◌, IsTrue, nat_lt, Some, None}
use Rattle.std.proofs.lemmas.Bool.{and_parts, ltb-true}
use Rattle.uc_model.specs.Prelude.{all_below, thermal_unit, thermal_count}
use Rattle.uc_model.proofs.Common.{all_below-at}
use Rattle.dual_model.specs.Prelude.{Instance, Node, HasEmptyUnit, Table, IsNodeValue, IsUnitValue}
use Rattle.dual_model.proofs.UnitValues.{unit_value_of, unit_value_is}
use Rattle.dual_model.proofs.NodeValues.{HasPoints, node_value_of, node_value_is}

-- what a value needs of the instance, as a test
abbrev pub has_points : Instance → Bool
has_points instance =
    nat_lt 0 instance.periods
    && all_below (thermal_count instance) (λ g. nat_lt 0 (length (thermal_unit instance g).points))

points_from : (instance : Instance) → IsTrue (has_points instance) → HasPoints instance
points_from instance h =
    let parts = and_parts _ _ h in
    record {
      some = ltb-true _ _ parts.0;
      each = λ g l. ltb-true _ _ (all_below-at _ (λ k. nat_lt 0 (length (thermal_unit instance k).points)) parts.1 g l);
    }

pub computed_value : {instance : Instance} {node : Node} {table : Table} {v : ℤ} → IsTrue (has_points instance)
    → node_value_of instance node table ≡ Some v → IsNodeValue instance node table v
computed_value {instance} {node} {table} points same = grind (arith, node_value_is, points_from, points, same)

pub computed_empty : {instance : Instance} {node : Node} (table : Table) → IsTrue (has_points instance)
    → node_value_of instance node table ≡ None → HasEmptyUnit instance node
computed_empty {instance} {node} table points same = grind (arith, node_value_is, points_from, points, same)

-- the same of a unit
pub computed_unit_value : {instance : Instance} {node : Node} {table : Table} {g : ℕ} {v : ℤ} → IsTrue (has_points instance)
    → IsTrue (nat_lt g (thermal_count instance)) → unit_value_of instance node table g ≡ Some v → IsUnitValue instance node table g v
computed_unit_value {instance} {node} {table} {g} points within same = grind (arith, points_from, unit_value_is, ltb-true, points, within, same)
