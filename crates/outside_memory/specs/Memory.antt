-- Files and sinks in memory as slots and sinks.
use Rattle.std.specs.Prelude.{◌≡◌, ℕ, Bool, true, false, List, [], Option, None, Some, take, drop, refl, string_bytes}
use Rattle.std.specs.Option.{option_map}
pub use Rattle.outside.specs.declared.slot.Stage.TheVariants.{Unopened}
use Rattle.outside_memory.specs.declared.memory_file.MemoryFile.{MemoryFile}
use Rattle.outside_memory.specs.declared.memory_sink.MemorySink.{MemorySink}
use Rattle.outside.specs.Prelude.{SlotState, HasNothingWritten, SinkState}

-- what is told of the bytes written: these, unless some were not kept
abbrev pub kept : Bool → List ℕ → Option (List ℕ)
kept true bytes = Some bytes
kept false bytes = None

abbrev pub file_state : MemoryFile → SlotState
file_state file = record {
  stage = file.stage;
  faults = 0;
  naming = Some (record { expected = string_bytes file.expected; is_matched = file.is_matched });
  left = Some (drop file.taken file.input.items);
  written = kept file.is_whole file.output.items;
}

-- an unopened file that expects this name and has these bytes
abbrev pub fresh_file : List ℕ → List ℕ → SlotState
fresh_file name bytes = record {
  stage = Unopened;
  faults = 0;
  naming = Some (record { expected = name; is_matched = false });
  left = Some bytes;
  written = Some [];
}

-- nothing is written to an unopened file
pub file_unwritten : (file : MemoryFile) → (file_state file).stage ≡ Unopened → HasNothingWritten (file_state file)
file_unwritten file e = rw ((file.fresh e).0, (file.fresh e).1) refl

abbrev pub sink_state : MemorySink → SinkState
sink_state sink = record {
  faults = 0;
  written = kept sink.is_whole sink.output.items;
  flushed = option_map (λ count. take count sink.output.items) sink.flushed;
}

-- a sink to which nothing was written
abbrev pub fresh_sink : SinkState
fresh_sink = record { faults = 0; written = Some []; flushed = Some [] }
