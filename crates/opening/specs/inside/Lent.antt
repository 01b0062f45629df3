-- What the evaluations of an instance share.
use Rattle.std.specs.Prelude.{◌≡◌, ℕ}
use Rattle.uc_model.specs.Prelude.{IsLawfulInstance}
pub use Rattle.uc_model.specs.declared.instance.Instance.{Instance}
use Rattle.dual_value.specs.Rooms.{IsRoomOf, RoomOf}

pub record IsLentOf (instance : Instance) (room : RoomOf) (periods : ℕ) : Type 0 where
  pub lawful : IsLawfulInstance instance
  pub is_room : IsRoomOf instance room
  pub is_scratch : periods ≡ instance.periods
