-- The words that clauses, specifications and proofs cite, passed on from one place. Declares nothing.
pub use Rattle.outside.specs.Sinks.{SinkCountsFault, SinkState, SinkWrites, SinkWritesFront, WriterCountsFault, WriterState, WriterWrites, WritesFront}
pub use Rattle.outside.specs.Slots.{AllUnopened, CountsFault, HasNothingWritten, SameBut, SlotState, matched, unread}
pub use Rattle.outside.specs.ToldBytes.{Appends, AppendsFront, Tells}
pub use Rattle.outside.specs.Counts.{HasRisen, one_more}
pub use Rattle.outside.specs.Reading.{FailsToRead, Reads, ReadsAll, ReadsBeyond, ReadsSome}
