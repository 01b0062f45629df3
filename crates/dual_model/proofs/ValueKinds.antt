-- The laws of values over both kinds: each by cases from those of either, or from another one of both.
use Rattle.std.proofs.Common.{ℕ, ◌<◌, Bool, true, false, ap, ◌∙◌, arith, pos, ◌*ℤ◌}
use Rattle.uc_model.specs.Prelude.{thermal_count, cost}
use Rattle.uc_model.proofs.Common.{linear, le_trans, mul-le-mul_left, mul-lt-mul_left, mul-zero, zero-mul}
use Rattle.dual_model.specs.Prelude.{Instance, Node, IsBlocked, HasBlockedUnit, WeakDuality, WeakDualityOfLeastStarts, RaysExclude, BlockedUnitsExclude, ValuesAreUnique, ValuesExist, ValuesExistAtSchedules, ChildBound}
use Rattle.dual_model.proofs.LeastStarts.{cost_by_least-cost}
use Rattle.dual_model.proofs.NodeValues
use Rattle.dual_model.proofs.ExactBound
use Rattle.dual_model.proofs.ExactValues
use Rattle.dual_model.proofs.ExactExists

pub least_starts : (exact : Bool) → WeakDualityOfLeastStarts exact
least_starts false = NodeValues.least_starts
least_starts true = ExactBound.exact_least_starts

-- categories cost no less than the least starts
pub weak_duality : (exact : Bool) → WeakDuality exact
weak_duality exact instance node table v q x lawful bounds is_value schedule =
    le_trans _ _ _ (least_starts exact instance node table v q x lawful bounds is_value schedule)
    (mul-le-mul_left table.k _ _ bounds.size.form.scale (cost_by_least-cost instance q x schedule.obeys))

-- a ray costs nothing
pub rays_exclude : (exact : Bool) → RaysExclude exact
rays_exclude exact instance node table v q x lawful bounds is_value is_ray positive schedule =
    let bound = weak_duality exact instance node table v q x lawful bounds is_value schedule in
    let free = ap (λ k. k *ℤ cost instance q x) is_ray ∙ zero-mul (cost instance q x) in
    let some = schedule.obeys.denominator in
    let above = mul-lt-mul_left (pos q) (pos 0) v (omega (arith, linear, some)) positive in
    let nothing = mul-zero (pos q) in
    absurd (omega (arith, linear, bound, free, above, nothing))

-- where a schedule obeys and agrees, each unit has one of its own, so no unit is blocked
unscheduled_exclude : BlockedUnitsExclude true
unscheduled_exclude instance node q x lawful schedule none =
    let own = ExactBound.schedules_are_unit_schedules instance node none.unit q x lawful schedule none.within in
    none.none q own.0 own.1

pub not_blocked : (exact : Bool) → BlockedUnitsExclude exact
not_blocked false = NodeValues.not_empty
not_blocked true = unscheduled_exclude

pub values_are_unique : (exact : Bool) → ValuesAreUnique exact
values_are_unique false = NodeValues.values_are_unique
values_are_unique true = ExactValues.exact_values_are_unique

pub values_exist : (exact : Bool) → ValuesExist exact
values_exist false = NodeValues.values_exist
values_exist true = ExactExists.exact_values_exist

pub values_exist_at_schedules : (exact : Bool) → ValuesExistAtSchedules exact
values_exist_at_schedules false = NodeValues.values_exist_at_schedules
values_exist_at_schedules true = ExactExists.exact_values_exist_at_schedules

pub child_bound : (exact : Bool) → ChildBound exact
child_bound false = NodeValues.child_bound
child_bound true = ExactExists.exact_child_bound

-- a unit that is blocked is one of those
pub blocked_unit : (exact : Bool) (instance : Instance) (node : Node) (g : ℕ) → g < thermal_count instance
    → IsBlocked exact instance node g → HasBlockedUnit exact instance node
blocked_unit false instance node g within blocked = record { unit = g; within = within; empty = blocked }
blocked_unit true instance node g within blocked = record { unit = g; within = within; none = blocked }
