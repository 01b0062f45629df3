-- The words that clauses, specifications and proofs cite, passed on from one place. Declares nothing.
pub use Rattle.book.specs.BookView.{BookView, Entry, Table, state_of}
pub use Rattle.book.specs.Claims.{Claim, Committed, GivenBack, Held, IsHeldBy, IsRising, Move, Status, are_kept, claim_of, ended, holder_by, holder_of, holders, kept_claims, move_by, move_of, no_claim, stays, stays_by, unit_anew}
pub use Rattle.book.specs.Running.{IsHeldOnce, IsMarked, IsReplayed, IsRunning}
pub use Rattle.book.specs.Calls.{IsAbandonAnswer, IsClaimAnswer, IsCommitAnswer, IsCommitted, IsHeldUnit, IsStoredAt, IsUnitHeld, MayBe, MayCommit, claimed, committed, given_back}
pub use Rattle.book.specs.Opening.{IsTrueOpening, Opening, start_by}
pub use Rattle.book.specs.Replay.{claim_event, commit_event, log_anew, number_of, replay, replayed, with_unit, woven}
