-- The memory for exact values of an instance's nodes, and what it holds.
use Rattle.std.specs.Prelude.{◌≡◌}
use Rattle.cost_curves.specs.UnitCurves.{AreCurvesOf}
use Rattle.uc_model.specs.declared.instance.Instance.{Instance}
use Rattle.uc_model.specs.declared.limits.TheConstants.{MAX_POINTS}
pub use Rattle.leaf_values.specs.declared.exact.ExactRoom.{ExactRoom}

pub record IsRoomOf (instance : Instance) (room : ExactRoom) : Type 0 where
  pub walk : room.walk ≡ instance.periods
  pub exact : room.exact ≡ record { periods = instance.periods; points = MAX_POINTS }
  pub curves : AreCurvesOf instance room.curves.items
