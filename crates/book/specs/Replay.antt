-- The run of the search machine that a book stands for: the log's commits in their order, and each claim, by rising unit, right behind
-- as many of them as the log had at that claim; the units that were given back are left out, and the others are numbered anew. This
-- project's own form.
use Rattle.std.specs.Prelude.{ℕ, ◌-◌, List, [], ◌∷◌, ◌++◌, None, map, take, drop}
use Rattle.branch_tree.specs.Prelude.{table_at}
use Rattle.search_machine.specs.declared.desk.WorkerState.{WorkerState}
pub use Rattle.search_machine.specs.declared.event.Event.{Event}
use Rattle.search_machine.specs.declared.event.Event.TheVariants as event
use Rattle.book.specs.BookView.{BookView, Entry, Table, Machine}
use Rattle.book.specs.Claims.{Claim, holders, kept_claims, are_kept, unit_anew, move_of}

-- an entry under another unit
abbrev pub with_unit : (ℕ → ℕ) → Entry → Entry
with_unit anew entry = record entry { unit = anew entry.unit }

-- the number that a unit has where those that were given back are left out
abbrev pub number_of : List Claim → ℕ → ℕ
number_of claims unit = unit_anew unit (are_kept claims)

-- the log with its units numbered anew
abbrev pub log_anew : BookView → List Entry
log_anew book = map (with_unit (number_of book.claims)) book.log

-- a claim, and the commit that an entry tells
abbrev pub claim_event : Claim → Event
claim_event claim = event.Claim claim.worker claim.node

abbrev pub commit_event : List Claim → List Table → Entry → Event
commit_event claims tables entry =
    event.Commit entry.worker (number_of claims entry.unit) (table_at tables entry.table) entry.exact entry.outcome
    (move_of claims entry.unit)

-- the claims in their order among the commits, of which so many were put before
abbrev pub woven : ℕ → List Claim → List Event → List Event
woven put [] commits = commits
woven put (claim ∷ claims) commits =
    take (claim.behind - put) commits ++ claim_event claim ∷ woven claim.behind claims (drop (claim.behind - put) commits)

abbrev pub replay : BookView → List Event
replay book = woven 0 (kept_claims book.claims) (map (commit_event book.claims book.tables) book.log)

-- the state that the replay has to give, with these desks: the book's tree and tables, the nodes that are held, and the log
abbrev pub replayed : BookView → List WorkerState → Machine
replayed book desks = record {
  budget = book.budget;
  gap = book.gap;
  tree = book.tree;
  tables = book.tables;
  claims = holders (kept_claims book.claims);
  log = log_anew book;
  best = None;
  desks = desks;
}
