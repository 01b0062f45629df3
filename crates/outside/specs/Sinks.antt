-- What a caller may know of a sink or a writer, and what each call does to it.
use Rattle.std.specs.Prelude.{◌≡◌, ℕ, List, Option}
use Rattle.outside.specs.Counts.{HasRisen}
use Rattle.outside.specs.ToldBytes.{Appends, AppendsFront}

-- a sink: its count of faults, and, where they are told, the bytes written and those flushed
pub record SinkState : Type 0 where
  pub faults : ℕ
  pub written : Option (List ℕ)
  pub flushed : Option (List ℕ)

-- these bytes were written, and nothing else changed
pub record SinkWrites (bytes : List ℕ) (old new : SinkState) : Type 0 where
  pub same : new ≡ record old { written = new.written }
  pub grown : Appends bytes old.written new.written

-- the sink once all that was written is flushed
abbrev pub flushed : SinkState → SinkState
flushed sink = record sink { flushed = sink.written }

-- a fault was counted, and nothing else changed
pub record SinkCountsFault (old new : SinkState) : Type 0 where
  pub rose : HasRisen old.faults new.faults
  pub same : new ≡ record old { faults = new.faults }

-- a writer: its count of faults, and, where they are told, the bytes written
pub record WriterState : Type 0 where
  pub faults : ℕ
  pub written : Option (List ℕ)

-- these bytes were written, and no fault was counted
pub record WriterWrites (bytes : List ℕ) (old new : WriterState) : Type 0 where
  pub same : new.faults ≡ old.faults
  pub grown : Appends bytes old.written new.written

-- a fault was counted, and no byte was written
pub record WriterCountsFault (old new : WriterState) : Type 0 where
  pub rose : HasRisen old.faults new.faults
  pub same : new.written ≡ old.written

-- a front of these bytes was written, and then a fault was counted
pub record WritesFront (bytes : List ℕ) (old new : WriterState) : Type 0 where
  pub rose : HasRisen old.faults new.faults
  pub grown : AppendsFront bytes old.written new.written

-- the same of a sink, of which nothing else changed
pub record SinkWritesFront (bytes : List ℕ) (old new : SinkState) : Type 0 where
  pub rose : HasRisen old.faults new.faults
  pub grown : AppendsFront bytes old.written new.written
  pub flushed : new.flushed ≡ old.flushed

-- a sink as a writer into it
abbrev pub sink_view : SinkState → WriterState
sink_view sink = record { faults = sink.faults; written = sink.written }
