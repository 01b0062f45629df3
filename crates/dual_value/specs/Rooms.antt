-- What contracts see of the room that is lent to evaluations of one instance. This project's own form.
use Rattle.std.specs.Prelude.{◌≡◌, ℕ, ◌<◌, ◌≤◌, Bool, true, false, List, length, pos, ◌≤ℤ◌, Option, IfSome}
use Rattle.std.specs.Option.{is_some}
pub use Rattle.uc_model.specs.declared.instance.Instance.{Instance}
use Rattle.uc_model.specs.declared.instance.Point.{Point}
use Rattle.uc_model.specs.declared.instance.Thermal.{Thermal}
use Rattle.uc_model.specs.declared.limits.TheConstants.{MAX_PERIODS, MAX_UNITS}
use Rattle.dual_model.specs.declared.table.Table.{Table}
use Rattle.cost_curves.specs.LowerHull.{IsLowerHull}
use Rattle.uc_model.specs.Prelude.{thermal_count, thermal_unit}
use Rattle.cost_curves.specs.UnitCurves.{curve_in, AreCurvesOf}
pub use Rattle.unit_exact.specs.Sizes.{Size}

-- the corners of each unit's curve, a number of periods, and the memory of exact values, where it has one
pub record RoomOf : Type 0 where
  pub curves : List (List Point)
  pub periods : ℕ
  pub exact : Option Size

-- whether it has
abbrev pub keeps_ramps : RoomOf → Bool
keeps_ramps room = is_some room.exact

-- the memory of exact values is for the instance's periods and for the points of each of its units
pub record IsSizeOf (instance : Instance) (size : Size) : Type 0 where
  pub periods : size.periods ≡ instance.periods
  pub points : (g : ℕ) → g < thermal_count instance → length (thermal_unit instance g).points ≤ size.points

-- the room was made for values of the kind, of the instance
pub record IsRoomFor (exact : Bool) (instance : Instance) (room : RoomOf) : Type 0 where
  pub periods : room.periods ≡ instance.periods
  pub curves : AreCurvesOf instance room.curves
  pub kind : keeps_ramps room ≡ exact
  pub size : IfSome room.exact (IsSizeOf instance)

abbrev pub IsRoomOf : Instance → RoomOf → Type 0
IsRoomOf = IsRoomFor false

abbrev pub IsExactRoomOf : Instance → RoomOf → Type 0
IsExactRoomOf = IsRoomFor true

-- the room has the curve of the unit at place g, which is a unit's number, and as many periods as the table, whose scale is at least 0
pub record IsPlaceIn (room : RoomOf) (unit : Thermal) (table : Table) (g : ℕ) : Type 0 where
  pub within : g < length room.curves
  pub number : g < MAX_UNITS
  pub curve : IsLowerHull unit.points (curve_in room.curves g)
  pub periods : (1 ≤ room.periods) × (room.periods ≤ MAX_PERIODS)
  pub prices : length table.pi ≡ room.periods
  pub scale : pos 0 ≤ℤ table.k
