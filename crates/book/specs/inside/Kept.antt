-- What the fields of a book keep. This project's own form.
use Rattle.std.specs.Prelude.{◌≡◌, ℕ, suc, ◌<◌, ◌≤◌, Bool, true, false, List, length, slice_index_or, All, ℤ}
use Rattle.branch_tree.specs.Prelude.{node_count, TreeView}
use Rattle.search_machine.specs.Prelude.{IsHeldIn}
use Rattle.book.specs.BookView.{BookView, Table}
use Rattle.book.specs.Claims.{Claim, holders}
use Rattle.book.specs.Opening.{Opening, IsTrueOpening}
use Rattle.book.specs.Running.{IsReplayed, IsHeldOnce}
use Rattle.book.specs.inside.Chains.{LogView, IsScaleNoted}

-- what contracts see of the claims: for how many claims there is room, and for how many nodes
pub record ClaimsView : Type 0 where
  pub claims : List Claim
  pub room : ℕ
  pub nodes : ℕ

-- what contracts see of a book's fields
abbrev pub view_of : ℕ → ℕ → TreeView → List Table → LogView → ClaimsView → BookView
view_of budget gap tree tables log claims =
    record { budget = budget; gap = gap; tree = tree; tables = tables; log = log.entries; claims = claims.claims }

-- one node is held by at most one unit, and of each node it is noted whether it is held
pub record AreNoted (claims : List Claim) (flags : List Bool) : Type 0 where
  pub once : IsHeldOnce (holders claims)
  pub held : (node : ℕ) → node < length flags → slice_index_or flags node false ≡ true → IsHeldIn (holders claims) node
  pub unheld : (node : ℕ) → node < length flags → slice_index_or flags node false ≡ false → ¬ IsHeldIn (holders claims) node

-- the numbers of a book besides what contracts see: how many nodes there are, for how many tables, entries, claims and nodes there is room,
-- and the greatest scales
pub record Rooms : Type 0 where
  pub count : ℕ
  pub tables : ℕ
  pub log : ℕ
  pub log_nodes : ℕ
  pub claims : ℕ
  pub claims_nodes : ℕ
  pub greatest : List ℤ

abbrev pub rooms_of : ℕ → ℕ → LogView → ClaimsView → Rooms
rooms_of count tables log claims = record {
  count = count;
  tables = tables;
  log = log.room;
  log_nodes = log.nodes;
  claims = claims.room;
  claims_nodes = claims.nodes;
  greatest = log.greatest;
}

pub record IsKept (opening : Opening) (book : BookView) (rooms : Rooms) : Type 0 where
  pub begun : IsTrueOpening opening
  pub budget : book.budget ≡ opening.budget
  pub gap : book.gap ≡ opening.gap
  pub replayed : IsReplayed opening book
  pub few : length book.claims ≤ book.budget
  pub once : IsHeldOnce (holders book.claims)
  -- each entry has a table of its own
  pub paired : length book.tables ≡ suc (length book.log)
  pub count : rooms.count ≡ node_count book.tree.nodes
  pub tables : rooms.tables ≡ suc (suc book.budget)
  pub log : rooms.log ≡ book.budget
  pub claims : rooms.claims ≡ book.budget
  pub log_nodes : book.tree.room ≤ rooms.log_nodes
  pub claims_nodes : book.tree.room ≤ rooms.claims_nodes
  pub scales : All (IsScaleNoted book.tables rooms.greatest) book.log
  pub greatest : length rooms.greatest ≡ rooms.log_nodes
