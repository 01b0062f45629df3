-- Why the bytes of a slot were not read.
use Rattle.std.specs.Prelude.{◌≡◌, ℕ, ⊤}
use Rattle.outside.specs.declared.slot.Slot.{Slot}
use Rattle.outside.specs.Prelude.{HasRisen, SlotState}
use Rattle.command_runs.specs.Reading.{Fault, Long, Memory, Read, IsLong}

-- the cause of a fault in reading the slot, of whose file at most so many bytes are read
abbrev pub IsUnread : Slot → ℕ → SlotState → SlotState → Fault → Type 0
IsUnread slot most old new (Read at) = (at ≡ slot) × HasRisen old.faults new.faults
IsUnread slot most old new (Long at) = (at ≡ slot) × IsLong most old new
IsUnread slot most old new Memory = ⊤
IsUnread slot most old new _ = ⊥
