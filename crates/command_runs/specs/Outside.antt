-- The outside of a run, before it and after it.
use Rattle.outside.specs.declared.slot.Slot.{Slot}
use Rattle.outside.specs.Prelude.{SlotState, SinkState}

-- the outside of a run, as far as its traits tell it: the files, the output and the error output
pub record Outside : Type 0 where
  pub files : Slot → SlotState
  pub out : SinkState
  pub err : SinkState

abbrev pub outside_of : (Slot → SlotState) → SinkState → SinkState → Outside
outside_of files out err = record { files = files; out = out; err = err }
