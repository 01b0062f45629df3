-- The words that clauses, specifications and proofs cite, passed on from one place. Declares nothing.
pub use Rattle.command_runs.specs.Writing.{FailsToSave, FailsToTell, IsSaved, IsTold, TellsFault, text_of_certificate}
pub use Rattle.command_runs.specs.Ending.{End, Ends, Failure, Fault, Found, IsAnswered, IsEndOf, IsFaulty, IsReportEnd}
pub use Rattle.command_runs.specs.Reading.{Fault, HasCause, HasInstance, IsOnlyRead, IsOpenedByNoOther, IsPriced, IsRefusal, IsRefused, IsTooDear, Json, Memory, ReadOptions, Refused, StandForPriced, Unopened, most_bytes, too_dear}
pub use Rattle.command_runs.specs.Certificates.{Fault, HasCertificate, HasCertificateText, HasReadCause, IsCertificateText, Long, Memory, Read, most_certificate_bytes}
pub use Rattle.command_runs.specs.Outside.{Outside, outside_of}
