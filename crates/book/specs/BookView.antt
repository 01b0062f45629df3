-- What contracts see of a book: a tree with its tables, its log and its claims, and the state of the search machine that it is. This
-- project's own form.
use Rattle.std.specs.Prelude.{ℕ, List, [], ◌∷◌, None, replicate, false}
use Rattle.uc_model.specs.Prelude.{thermal_count}
use Rattle.branch_tree.specs.Prelude.{EndAt, TreeView}
use Rattle.branch_tree.specs.declared.tree.Leaf.TheVariants as leaf
pub use Rattle.search_machine.specs.Prelude.{Machine}
pub use Rattle.branch_tree.specs.declared.found.Entry.{Entry}
pub use Rattle.dual_model.specs.declared.table.Table.{Table}
use Rattle.search_machine.specs.Prelude.{no_desk, room_for}
use Rattle.book.specs.Claims.{Claim, holders}
use Rattle.book.specs.Opening.{Opening}

pub record BookView : Type 0 where
  pub budget : ℕ
  pub gap : ℕ
  pub tree : TreeView
  -- the opening's table, and one of each entry in their order
  pub tables : List Table
  pub log : List Entry
  pub claims : List Claim

-- as a state of the search machine, in which a unit that was given back counts as ended, and no worker has a ticket
abbrev pub state_of : BookView → Machine
state_of book = record {
  budget = book.budget;
  gap = book.gap;
  tree = book.tree;
  tables = book.tables;
  claims = holders book.claims;
  log = book.log;
  best = None;
  desks = replicate 256 no_desk;
}

-- without a claim: the root is open, and stores the opening's table and value
abbrev pub opened : Opening → BookView
opened opening = record {
  budget = opening.budget;
  gap = opening.gap;
  tree = record {
    units = thermal_count opening.instance;
    periods = opening.instance.periods;
    room = room_for opening.budget;
    nodes = EndAt 0 (leaf.Live 0 opening.value false);
  };
  tables = opening.table ∷ [];
  log = [];
  claims = [];
}
