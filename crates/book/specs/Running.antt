-- What holds of a book whenever its lock is free. Source: this project's own form; the machine is that of `search_machine`.
use Rattle.std.specs.Prelude.{◌≡◌, ℕ, suc, ◌<◌, ◌≤◌, All, List, Option, Some, length, slice_get}
use Rattle.branch_tree.specs.Prelude.{IsTrueLog}
use Rattle.search_machine.specs.declared.desk.WorkerState.{WorkerState}
use Rattle.search_machine.specs.Prelude.{AnyCost, IsTrueRunBy, TreeHoldsAt, after_all}
use Rattle.book.specs.BookView.{BookView, Entry}
use Rattle.book.specs.Claims.{Claim, Holder, Move, Committed, holders, IsRising}
use Rattle.book.specs.Opening.{Opening, start_by}
use Rattle.book.specs.Replay.{replay, replayed}

-- the claim of an entry's unit was committed, by the entry's worker on its node, and the entry's table is there
pub record IsMarked (claims : List Claim) (tables : ℕ) (entry : Entry) : Type 0 where
  pub claim : Claim
  pub place : ℕ
  pub unit : entry.unit ≡ suc place
  pub is : slice_get claims place ≡ Some claim
  pub action : Move
  pub status : claim.status ≡ Committed action
  pub worker : claim.worker ≡ entry.worker
  pub node : claim.node ≡ entry.node
  pub table : entry.table < tables

-- the replay is a run of legal and true claims and commits, in which a Prune asks for its number test alone, and it gives the book
pub record IsReplayed (opening : Opening) (book : BookView) : Type 0 where
  pub run : IsTrueRunBy AnyCost opening.instance (start_by opening) (replay book)
  pub desks : List WorkerState
  pub workers : length desks ≡ 256
  pub gives : after_all (start_by opening) (replay book) ≡ replayed book desks
  -- each claim has its place in the replay, and each entry its claim
  pub rising : IsRising 0 (length book.log) book.claims
  pub marked : All (IsMarked book.claims (length book.tables)) book.log

-- one node is held by at most one claim
abbrev pub IsHeldOnce : List (Option Holder) → Type 0
IsHeldOnce claims =
    (one other : ℕ) (first second : Holder) → slice_get claims one ≡ Some (Some first) → slice_get claims other ≡ Some (Some second)
    → first.node ≡ second.node → one ≡ other

pub record IsRunning (opening : Opening) (book : BookView) : Type 0 where
  pub replays : IsReplayed opening book
  pub log : IsTrueLog opening.instance book.tree book.tables book.log
  pub budget : book.budget ≡ opening.budget
  pub gap : book.gap ≡ opening.gap
  pub few : length book.claims ≤ book.budget
  pub once : IsHeldOnce (holders book.claims)
  -- the tree is a cover that bounds every schedule's cost, and each of its nodes stores what its entries leave
  pub tree : TreeHoldsAt opening.instance (start_by opening) (replayed book replays.desks)
