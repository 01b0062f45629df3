-- Whether each unit may be scheduled by itself before anything is decided. This project's own.
--
-- Units count from 0 here.
use Rattle.std.specs.Prelude.{ℕ, ◌<◌, Bool}
use Rattle.uc_model.specs.Prelude.{thermal_count}
use Rattle.uc_model.specs.declared.instance.Instance.{Instance}
use Rattle.dual_model.specs.Prelude.{root, IsBlocked}

-- each thermal unit has an allowed pattern, or where `exact` a schedule of its own
abbrev pub HasNoBlockedUnit : Bool → Instance → Type 0
HasNoBlockedUnit exact instance = (g : ℕ) → g < thermal_count instance → ¬ IsBlocked exact instance root g
