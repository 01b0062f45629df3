-- Files and sinks on which calls fail, as slots and sinks.
use Rattle.std.specs.Prelude.{◌≡◌}
use Rattle.outside_memory.specs.declared.faulty_file.FaultyFile.{FaultyFile}
use Rattle.outside_memory.specs.declared.faulty_sink.FaultySink.{FaultySink}
use Rattle.outside.specs.Prelude.{SlotState, HasNothingWritten, SinkState}
use Rattle.outside_memory.specs.Memory.{Unopened, file_state, file_unwritten, sink_state}

-- the file in memory, with the faults of the schedule
abbrev pub faulty_file_state : FaultyFile → SlotState
faulty_file_state file = record (file_state file.memory) { faults = file.schedule.faults }

-- nothing is written to an unopened file
pub faulty_file_unwritten : (file : FaultyFile) → (faulty_file_state file).stage ≡ Unopened → HasNothingWritten (faulty_file_state file)
faulty_file_unwritten file e = file_unwritten file.memory e

-- the sink in memory, with the faults of the schedule
abbrev pub faulty_sink_state : FaultySink → SinkState
faulty_sink_state sink = record (sink_state sink.memory) { faults = sink.schedule.faults }
