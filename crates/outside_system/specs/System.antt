-- Files and streams of the system as slots and sinks. They tell no content.
use Rattle.std.specs.Prelude.{ℕ, None}
use Rattle.outside.specs.declared.slot.Stage.{Stage}
use Rattle.outside.specs.declared.slot.Stage.TheVariants.{Unopened, Open, Finished}
use Rattle.outside_system.specs.declared.system.Handle.{Handle}
use Rattle.outside_system.specs.declared.system.Handle.TheVariants.{Unopened as NoFile, Open as OpenFile, Lost as LostFile, Finished as DoneFile}
use Rattle.outside.specs.Prelude.{SlotState, SinkState}

-- the stage of a file of the system; one that was given up after a fault stays open
abbrev pub stage_of : {H : Type 0} → Handle H → Stage
stage_of NoFile = Unopened
stage_of (OpenFile file) = Open
stage_of LostFile = Open
stage_of DoneFile = Finished

-- a slot that tells no content
abbrev pub untold_slot : Stage → ℕ → SlotState
untold_slot stage faults = record { stage = stage; faults = faults; naming = None; left = None; written = None }

-- a sink that tells no content
abbrev pub untold_sink : ℕ → SinkState
untold_sink faults = record { faults = faults; written = None; flushed = None }
