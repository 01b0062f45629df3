-- The words that clauses, specifications and proofs cite, passed on from one place. Declares nothing.
pub use Rattle.search_machine.specs.Machine.{Entry, Holder, IsHeld, IsHeldIn, IsHolding, IsLive, IsOpen, IsWorker, Machine, Table, WorkerState, desk_in, desk_of, entries_of, first_desk, holder_in, holder_of, no_desk, room_for, spot_stored, start_of, stored_at}
pub use Rattle.search_machine.specs.Moves.{Again, Empty, HasFreeCell, IsFreeFor, IsMoveLegal, IsPositive, MayGoOn, MayPrune, Move, Outcome, Prune, Ray, Split, bound_leaf, bound_of, children_by, closed, empty_leaf, kept, kept_after, live_leaf, ray_leaf, split, tickets_of, tree_after, unit_of}
pub use Rattle.search_machine.specs.Steps.{AnyCost, Claim, Commit, Event, HasSeen, IsClaimable, IsCommittable, IsElsewhere, IsFresh, IsLegal, IsLegalBy, IsStoredTable, Look, Pop, Publish, Push, Steal, after, committed, committed_by, first_queued, is_in_hand, taken, with_desk, with_queued, with_tickets, without_first}
pub use Rattle.search_machine.specs.Orderly.{AreHoldersApart, Instance, IsEachTicketOnce, IsOrderly, MAX_BUDGET, WHOLE_GAP, held_count, times_in}
pub use Rattle.search_machine.specs.OwnTables.{HasFewEntries, HasFreeCellAt, HoldsStored, Node, Owns, OwnsBelow, StartsAt, stored_after, stored_by}
pub use Rattle.search_machine.specs.Runs.{HoldsAlong, HoldsAt, Instance, IsBestWithin, IsPrunedWithin, IsReachedBy, IsSettled, IsTrueCost, IsTrueEvent, IsTrueOutcome, IsTrueRun, IsTrueRunBy, IsTrueStart, Leaf, Node, ReachedStatesHold, RunsHold, StartsAreReached, StepsReach, TreeHoldsAt, TreeRunsHold, WHOLE_GAP, after_all}
