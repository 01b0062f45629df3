-- What reading the instance's file gave, and the cause of each fault that comes of it. Sources: RFC 8259 and the
-- pglib-uc format for the instance; the rest is this project's own.
use Rattle.std.specs.Prelude.{◌≡◌, ◌≢◌, ℕ, ◌+◌, ◌^◌, ◌<◌, ◌≤◌, ◌⊎◌, ⊤, Bool, List, [], ◌++◌, pos, ◌<ℤ◌, ◌≤ℤ◌, IfSome, length}
use Rattle.std.specs.Option.{option_map}
use Rattle.uc_model.specs.Prelude.{IsLawfulInstance, greatest_shortage_cost}
use Rattle.uc_model.specs.declared.limits.TheConstants.{MAX_SHORTAGE_COST}
pub use Rattle.uc_model.specs.declared.instance.Instance.{Instance}
use Rattle.uc_model.specs.declared.field.Field.TheVariants.{NoField}
use Rattle.uc_model.specs.declared.field_refusal.FieldRefusal.{FieldRefusal}
use Rattle.outside.specs.declared.slot.Slot.TheVariants as slot
pub use Rattle.outside.specs.declared.slot.Stage.TheVariants.{Unopened, Finished}
use Rattle.outside.specs.Prelude.{HasRisen, Tells, SlotState, matched}
use Rattle.instance.specs.Bytes.{StandFor, StandForCounted}
use Rattle.instance.specs.Bytes as read
use Rattle.instance.specs.declared.from_bytes.ReadFault.{ReadFault}
use Rattle.instance.specs.declared.from_bytes.ReadFault.TheVariants as read_fault
pub use Rattle.command_runs.specs.declared.input.ReadOptions.{ReadOptions}
pub use Rattle.report.specs.declared.fault.Fault.{Fault}
pub use Rattle.report.specs.declared.fault.Fault.TheVariants.{Read, Memory, Long, Json, Instance as Refused}

-- the most bytes of an instance file: 64 MiB
abbrev pub most_bytes : ℕ
most_bytes = 2 ^ 26

-- the instance that is given, with the prices of shortages, at which all that could be short costs no more than is allowed
pub record IsPriced (options : ReadOptions) (given instance : Instance) : Type 0 where
  pub priced : instance ≡ record given { a = options.shed; b = options.spill_reserve }
  pub fits : greatest_shortage_cost given options.shed options.spill_reserve ≤ℤ pos MAX_SHORTAGE_COST

-- the bytes stand for the instance, but for these prices, with this count of rounded numbers
pub record StandForPriced (options : ReadOptions) (bytes : List ℕ) (instance : Instance) (rounded : ℕ) : Type 0 where
  pub given : Instance
  pub stand : StandForCounted options.exact bytes given rounded
  pub priced : IsPriced options given instance

-- the file's bytes, where they are told, are at most as many as are read and stand for the instance with its prices, and for no other
-- one, with this count of rounded numbers
pub record HasInstance (options : ReadOptions) (file : SlotState) (instance : Instance) (rounded : ℕ) : Type 0 where
  pub bytes : List ℕ
  pub told : Tells file.left bytes
  pub few : length bytes ≤ most_bytes
  pub stand : StandForPriced options bytes instance rounded
  pub only : (other : Instance) (count : ℕ) → StandForPriced options bytes other count → other ≡ instance
  pub lawful : IsLawfulInstance instance

-- the bytes stand for no instance, and this fault has its cause
pub record IsRefused (exact : Bool) (bytes : List ℕ) (fault : ReadFault) : Type 0 where
  pub none : (instance : Instance) → ¬ StandFor exact bytes instance
  pub cause : read.HasCause exact bytes fault

-- the refusal of prices that are too high for the instance: the code I9, which comes after all others and has no place
abbrev pub too_dear : FieldRefusal
too_dear = record { code = 9; kind_of_unit = 0; unit = []; field = NoField; entry = 0 }

-- the bytes stand for this instance and for no other, and at these prices all that could be short costs more than is allowed
pub record IsTooDear (options : ReadOptions) (bytes : List ℕ) (refusal : FieldRefusal) : Type 0 where
  pub given : Instance
  pub stand : StandFor options.exact bytes given
  pub only : (instance : Instance) → StandFor options.exact bytes instance → instance ≡ given
  pub dear : pos MAX_SHORTAGE_COST <ℤ greatest_shortage_cost given options.shed options.spill_reserve
  pub is : refusal ≡ too_dear

-- why bytes that were read have no instance with these prices
abbrev pub IsRefusal : ReadOptions → List ℕ → Fault → Type 0
IsRefusal options bytes (Json at kind) = IsRefused options.exact bytes (read_fault.Json at kind)
IsRefusal options bytes (Refused refusal) =
    IsRefused options.exact bytes (read_fault.Refused refusal) ⊎ IsTooDear options bytes refusal
IsRefusal options bytes Memory = ⊤
IsRefusal options bytes _ = ⊥

-- the same of the bytes of the file, where they are told, of which there are no more than are read, and reading them
-- met no fault
pub record HasNoInstance (options : ReadOptions) (old new : SlotState) (fault : Fault) : Type 0 where
  pub bytes : List ℕ
  pub told : Tells old.left bytes
  pub few : length bytes ≤ most_bytes
  pub refused : IsRefusal options bytes fault
  pub calm : new.faults ≡ old.faults

-- the file has more bytes than are read, where they are told, and reading it met no fault
pub record IsLong (most : ℕ) (old new : SlotState) : Type 0 where
  pub long : IfSome old.left (λ bytes. most < length bytes)
  pub calm : new.faults ≡ old.faults

-- the cause of a fault that comes before anything is written, by the instance's file before and after
abbrev pub HasCause : ReadOptions → SlotState → SlotState → Fault → Type 0
HasCause options old new (Read slot.Instance) = HasRisen old.faults new.faults
HasCause options old new Memory = ⊤
HasCause options old new (Long slot.Instance) = IsLong most_bytes old new
HasCause options old new (Json at kind) = HasNoInstance options old new (Json at kind)
HasCause options old new (Refused refusal) = HasNoInstance options old new (Refused refusal)
HasCause options old new _ = ⊥

-- the slot wasn't opened, or it was opened by the name, which counts where it tells the one it expects
abbrev pub IsOpenedByNoOther : List ℕ → SlotState → SlotState → Type 0
IsOpenedByNoOther name old new = (new.stage ≡ Unopened) ⊎ (new.naming ≡ option_map (matched name) old.naming)

-- a slot that is only read: it is neither written nor finished, and of its bytes, where they are told, at most one
-- more was taken than its file may have
pub record IsOnlyRead (most : ℕ) (old new : SlotState) : Type 0 where
  pub unwritten : new.written ≡ old.written
  pub unfinished : new.stage ≢ Finished
  pub taken : List ℕ
  pub left : option_map (λ rest. taken ++ rest) new.left ≡ old.left
  pub few : length taken ≤ most + 1
