-- Where a node has a value of a kind no unit is blocked, and where none is none is told to be the first.
use Rattle.std.proofs.Common.{ℕ, ◌<◌, Bool, true, false, ℤ}
use Rattle.uc_model.specs.Prelude.{thermal_count}
use Rattle.uc_model.specs.declared.instance.Instance.{Instance}
use Rattle.dual_model.specs.Prelude.{root, IsBlocked, IsFirstBlocked, IsValueOf}
use Rattle.dual_model.specs.declared.node.Node.{Node}
use Rattle.dual_model.specs.declared.table.Table.{Table}
use Rattle.opening.specs.Blocked.{HasNoBlockedUnit}

pub not_blocked : (exact : Bool) (instance : Instance) (node : Node) (table : Table) (v : ℤ) → IsValueOf exact instance node table v
    → (g : ℕ) → g < thermal_count instance → ¬ IsBlocked exact instance node g
not_blocked false instance node table v value g h none =
    let unit = value.units g h in
    none unit.on unit.best.pattern
not_blocked true instance node table v value g h none =
    let unit = value.exact_units g h in
    none unit.q unit.x unit.is_schedule

pub not_first_blocked : (exact : Bool) (instance : Instance) (node : Node) (table : Table) (v : ℤ) (g : ℕ) → IsValueOf exact instance node table v
    → ¬ IsFirstBlocked exact instance node g
not_first_blocked false instance node table v g value first = not_blocked false instance node table v value g first.within first.empty
not_first_blocked true instance node table v g value first = not_blocked true instance node table v value g first.within first.none

pub not_first : (exact : Bool) (instance : Instance) (g : ℕ) → HasNoBlockedUnit exact instance → ¬ IsFirstBlocked exact instance root g
not_first false instance g each first = each g first.within first.empty
not_first true instance g each first = each g first.within first.none
