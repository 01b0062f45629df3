-- The instance that is given, and when the prices of shortages are too high for it. This project's own.
use Rattle.std.specs.Prelude.{◌≡◌, ⊤, Bool, ℕ, List, pos, ◌<ℤ◌}
use Rattle.uc_model.specs.Prelude.{greatest_shortage_cost}
use Rattle.uc_model.specs.declared.limits.TheConstants.{MAX_SHORTAGE_COST}
pub use Rattle.instance.specs.Bytes.{StandFor, StandForCounted}
use Rattle.instance.specs.declared.from_bytes.ReadFault.TheVariants as read_fault
pub use Rattle.command_runs.specs.Reading.{Instance}
use Rattle.command_runs.specs.Reading.{Fault, Json, Memory, ReadOptions, Refused, IsRefused, too_dear}

-- why bytes that were read stand for no instance
abbrev pub HasNone : Bool → List ℕ → Fault → Type 0
HasNone exact bytes (Json at kind) = IsRefused exact bytes (read_fault.Json at kind)
HasNone exact bytes (Refused refusal) = IsRefused exact bytes (read_fault.Refused refusal)
HasNone exact bytes Memory = ⊤
HasNone exact bytes _ = ⊥

-- all that could be short costs more than is allowed at these prices, and that is the fault
pub record IsDear (options : ReadOptions) (given : Instance) (fault : Fault) : Type 0 where
  pub dear : pos MAX_SHORTAGE_COST <ℤ greatest_shortage_cost given options.shed options.spill_reserve
  pub is : fault ≡ Refused too_dear
